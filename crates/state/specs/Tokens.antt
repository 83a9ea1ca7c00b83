-- SPDX-License-Identifier: Apache-2.0
-- `publish` and `abort`, and when a load is outstanding, which `validate` asks too.
use Rattle.std.specs.Prelude.{◌+◌, ◌-◌, Bool, not, ◌&&◌, ltb, leb, eqb}
use Rattle.basics.specs.Try.{ok, ◌>>=◌, ◌>>◌, need}
use Rattle.basics.specs.Refusals.{STOP, STALE, UNGIVEN}
use Rattle.basics.specs.Numbers.{MAX}
use Rattle.basics.specs.Answers.{Fine, done}
use Rattle.key.specs.Key.{same_key}
use Rattle.index.specs.Free.{vacate}
use Rattle.eviction.specs.Heap.{insert_heap}
use Rattle.state.specs.declared.Slot.{Slot}
use Rattle.state.specs.declared.State.{State}
use Rattle.state.specs.declared.LoadToken.{LoadToken}
use Rattle.state.specs.Slots.{slot_at, is_loading, vacant_slot, clean_slot}
use Rattle.state.specs.Parts.{with_slot, with_index, with_heap, with_held}
use Rattle.state.specs.Answers.{After, told, unless_refused}
use Rattle.state.specs.Fresh.{sound}

-- the slot's record is "loading with the token's .. key and generation"
unfoldable pub loads_for : Slot → LoadToken → Bool
loads_for s k = is_loading s && same_key s.key k.key && eqb s.generation k.generation

-- 6 is "no slot below the capacity is loading with the token's slot, key and generation"
unfoldable pub outstanding : State → LoadToken → Bool
outstanding t k = ltb k.slot t.capacity && loads_for (slot_at t k.slot) k

-- "Publish makes the slot clean with the token's use number, so a key's last use is its reservation until a hit."
unfoldable pub publish : State → LoadToken → After Fine
publish t k = unless_refused t do
  need (sound t) STOP
  need (outstanding t k) STALE
  need (leb k.access_sequence t.next_access_sequence) UNGIVEN
  h ← insert_heap t.capacity t.eviction k.slot k.access_sequence
  need (ltb 0 t.loading) STOP
  need (not (eqb t.clean MAX)) STOP
  ok (told (with_held (with_heap (with_slot t k.slot (clean_slot k.key k.access_sequence)) h) (t.clean + 1) (t.loading - 1)) done)

-- "Abort frees the slot."
unfoldable pub abort : State → LoadToken → After Fine
abort t k = unless_refused t do
  need (sound t) STOP
  need (outstanding t k) STALE
  ix ← vacate t.capacity t.index k.key k.slot
  need (ltb 0 t.loading) STOP
  ok (told (with_held (with_index (with_slot t k.slot vacant_slot) ix) t.clean (t.loading - 1)) done)
