-- SPDX-License-Identifier: Apache-2.0
-- "pinned keys are restored in old slot order into a fresh table; if a chain refuses one, double the capacity while shrinking and below half the old
-- (rounded down), else Busy."
use Rattle.std.specs.Prelude.{ℕ, zero, suc, ◌+◌, ◌*◌, ◌/◌, Bool, not, ◌&&◌, List, ltb, eqb, if◌then◌else◌}
use Rattle.std.proofs.Math.Option.{Option, none, some}
use Rattle.basics.specs.Try.{Try, ok, ◌>>=◌, ◌>>◌, need}
use Rattle.basics.specs.Refusals.{STOP}
use Rattle.basics.specs.Numbers.{MAX}
use Rattle.key.specs.declared.CacheKey.{CacheKey}
use Rattle.index.specs.Chain.{can_insert, insert_index}
use Rattle.index.specs.Free.{top_vacant, take_vacant}
use Rattle.eviction.specs.Heap.{insert_heap}
use Rattle.state.specs.declared.State.{State}
use Rattle.state.specs.Slots.{slot_at, clean_slot}
use Rattle.state.specs.Parts.{with_slot, with_index, with_heap, with_held}
use Rattle.state.specs.Fresh.{fresh}
use Rattle.eviction.specs.Victim.{unpinned}

-- `restore_clean` into the top of the stack; none where nothing is vacant. In a table that resize fills from a fresh one no test here can fail: the slot is
-- the top, its chain has room, it has no place in the heap, and at most 256 are clean.
unfoldable pub restore_into : State → CacheKey → ℕ → Option ℕ → Try (Option State)
restore_into t key n none = ok none
restore_into t key n (some slot) = do
  took ← take_vacant t.capacity t.index slot
  ix ← insert_index t.capacity took key slot
  h ← insert_heap t.capacity t.eviction slot n
  need (not (eqb t.clean MAX)) STOP
  ok (some (with_held (with_heap (with_index (with_slot t slot (clean_slot key n)) ix) h) (t.clean + 1) t.loading))

-- `restore_clean`: none where the chain is full
unfoldable pub restore : State → CacheKey → ℕ → Try (Option State)
restore t key n = do
  room ← can_insert t.capacity t.index key
  if not room then ok none else do
    top ← top_vacant t.capacity t.index
    restore_into t key n top

-- on with the table, where there is one
abbrev pub and_on : Option State → (State → Try (Option State)) → Try (Option State)
and_on none f = ok none
and_on (some t) f = f t

-- the pinned keys of the old slots left, from `slot` on, are restored into t; none where one is refused
unfoldable pub restore_pinned : ℕ → State → List ℕ → ℕ → State → Try (Option State)
restore_pinned zero old pins slot t = ok (some t)
restore_pinned (suc left) old pins slot t =
    if unpinned pins slot then restore_pinned left old pins (slot + 1) t else do
      u ← restore t (slot_at old slot).key (slot_at old slot).last_access
      and_on u (λ v. restore_pinned left old pins (slot + 1) v)

-- the table, or what comes else
abbrev pub or_else : Option State → Try (Option State) → Try (Option State)
or_else none r = r
or_else (some t) r = ok (some t)

-- a table of capacity c with the pinned keys, or one of twice that; no capacity is doubled 8 times
unfoldable pub candidate : ℕ → State → List ℕ → Bool → ℕ → Try (Option State)
candidate zero old pins shrinking c = ok none
candidate (suc left) old pins shrinking c = do
  fits ← restore_pinned old.capacity old pins 0 (fresh c)
  or_else fits (if shrinking && ltb c (old.capacity / 2) then candidate left old pins shrinking (c * 2) else ok none)
