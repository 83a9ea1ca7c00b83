-- SPDX-License-Identifier: Apache-2.0
-- How `can_insert` told whether a chain is full before document 02 had its length kept: by a walk. A law says that on a valid table the length tells the
-- same (Lengths.antt, `RoomOnValid`). `c` is the capacity.
use Rattle.std.specs.Prelude.{ℕ, zero, suc, Bool, true, false, leb, eqb, if◌then◌else◌}
use Rattle.basics.specs.Try.{Try, ok, refuse, ◌>>◌, need}
use Rattle.basics.specs.Refusals.{STOP}
use Rattle.basics.specs.Numbers.{NONE}
use Rattle.key.specs.declared.CacheKey.{CacheKey}
use Rattle.index.specs.declared.Index.{Index}
use Rattle.index.specs.Chain.{CHAIN, sized, head_of, next_of}

-- whether the chain, from `slot` on, ends before the steps do
unfoldable pub room_from : ℕ → ℕ → Index → ℕ → Try Bool
room_from zero c ix slot = if eqb slot NONE then ok false else refuse STOP
room_from (suc left) c ix slot =
    if eqb slot NONE then ok true else
    if leb c slot then refuse STOP else
    room_from left c ix (next_of ix slot)

-- the same from the head of the key's chain
unfoldable pub walked_room : ℕ → Index → CacheKey → Try Bool
walked_room c ix key = do
  need (sized c ix) STOP
  room_from CHAIN c ix (head_of ix key)
