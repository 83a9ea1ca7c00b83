-- SPDX-License-Identifier: Apache-2.0
-- `peek_clean` of one key, with the number of slots that its walk visits.
use Rattle.std.specs.Prelude.{ℕ, zero, suc, leb, eqb, if◌then◌else◌}
use Rattle.std.proofs.Math.Option.{Option, some}
use Rattle.basics.specs.Try.{Try, ok, refuse}
use Rattle.basics.specs.Refusals.{STOP}
use Rattle.basics.specs.Numbers.{NONE}
use Rattle.key.specs.declared.CacheKey.{CacheKey}
use Rattle.index.specs.Chain.{CHAIN, head_of, next_of, length_of}
use Rattle.state.specs.declared.State.{State}
use Rattle.state.specs.Slots.{slot_at, clean_with}
use Rattle.state.specs.Fresh.{sound}
use Rattle.state.specs.Find.{ended}

-- an answer, and the slots visited for it
pub record Single : Type 0 where
  pub answer : Try (Option ℕ)
  pub visited : ℕ

abbrev pub single : Try (Option ℕ) → ℕ → Single
single answer visited = record { answer = answer; visited = visited }

-- one slot more
abbrev pub and_one : Single → Single
and_one r = single r.answer (suc r.visited)

-- `peek_from`, line by line: a slot that it compares with the key is visited
unfoldable pub single_from : ℕ → State → CacheKey → ℕ → Single
single_from zero t key slot = single (if eqb slot NONE then ended (length_of t.index key) 0 else refuse STOP) 0
single_from (suc left) t key slot =
    if eqb slot NONE then single (ended (length_of t.index key) (suc left)) 0 else
    if leb t.capacity slot then single (refuse STOP) 0 else
    if clean_with (slot_at t slot) key then single (ok (some slot)) 1 else
    and_one (single_from left t key (next_of t.index slot))

-- `peek_clean`
unfoldable pub single_peek : State → CacheKey → Single
single_peek t key = if sound t then single_from CHAIN t key (head_of t.index key) else single (refuse STOP) 0

-- the slots that a single peek of the key visits
abbrev pub visits : State → CacheKey → ℕ
visits t key = (single_peek t key).visited

-- the slot that is reached from `slot` by so many links
unfoldable pub onward : State → ℕ → ℕ → ℕ
onward t zero slot = slot
onward t (suc n) slot = onward t n (next_of t.index slot)
