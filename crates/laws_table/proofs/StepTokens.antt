-- SPDX-License-Identifier: Apache-2.0
-- Publish and abort of an outstanding token do not stop: the slot is clean or vacant after, and no other changes. Assumes nothing.
use Prim.Native.Nat.{◌+◌, ◌-◌, ◌<◌, ◌≤◌}
use native.Mathlib.Omega.{arith}
use mathlib.Core.Path.{◌≡◌, refl}
use mathlib.Core.Bool.{true, false, ◌&&◌}
use mathlib.Core.Option.{none, some}
use lib.Dec.{ltb, eqb}
use borrow.Author.Tests.{eqb-true, ltb-true, lt-ltb, le-leb, eq-eqb, ne_eqb}
use Rattle.basics.specs.Numbers.{MAX}
use Rattle.basics.specs.Answers.{done}
use Rattle.basics.proofs.Tests.{and_left, and_right}
use Rattle.basics.proofs.Maps.{put, put_same}
use Rattle.key.specs.Key.{same_key}
use Rattle.key.proofs.Keys.{same_key_lem, key_eq}
use Rattle.eviction.specs.Heap.{insert_heap}
use Rattle.state.specs.declared.State.{State}
use Rattle.state.specs.declared.LoadToken.{LoadToken}
use Rattle.state.specs.Slots.{slot_at, vacant_slot, clean_slot, is_loading, is_clean, occupied}
use Rattle.state.specs.Parts.{with_slot, with_index, with_heap, with_held}
use Rattle.state.specs.Answers.{told}
use Rattle.state.specs.Tokens.{loads_for, outstanding, publish, abort}
use Rattle.laws_table.specs.Table.{last_in, Inv, Step}
use Rattle.laws_table.proofs.Sifts.{Sifted}
use Rattle.laws_table.proofs.HeapInsert.{insert_heap_lem}
use Rattle.laws_table.proofs.SlotKinds.{clean_occupied, loading_occupied, loading_not_clean, last_clean, last_none}
use Rattle.laws_table.proofs.TableParts.{inv_set, slots_sum, clean_len, sound_inv}
use Rattle.laws_table.proofs.StepParts.{stepped, same_buckets, loading_pos, vacated, vacate_gives, emptied}

-- "6 StaleLoad: no slot below the capacity is loading with the token's slot, key and generation": else there is one
pub record Loads (t : State) (k : LoadToken) : Type 0 where
  pub low : k.slot < t.capacity
  pub loading : is_loading (slot_at t k.slot) ≡ true
  pub key : (slot_at t k.slot).key ≡ k.key
  pub generation : (slot_at t k.slot).generation ≡ k.generation

pub outstanding_loads : (t : State) (k : LoadToken) → outstanding t k ≡ true → Loads t k
unfolding outstanding loads_for
outstanding_loads t k e =
    let s = slot_at t k.slot in
    let all = and_right (ltb k.slot t.capacity) (is_loading s && same_key s.key k.key && eqb s.generation k.generation) e in
    let two = and_left (is_loading s && same_key s.key k.key) (eqb s.generation k.generation) all in
    record {
      low = ltb-true k.slot t.capacity (and_left (ltb k.slot t.capacity) (is_loading s && same_key s.key k.key && eqb s.generation k.generation) e);
      loading = and_left (is_loading s) (same_key s.key k.key) two;
      key = key_eq s.key k.key (and_right (is_loading s) (same_key s.key k.key) two);
      generation = eqb-true s.generation k.generation (and_right (is_loading s && same_key s.key k.key) (eqb s.generation k.generation) all);
    }

pub loads_outstanding : (t : State) (k : LoadToken) → Loads t k → outstanding t k ≡ true
unfolding outstanding loads_for
loads_outstanding t k l = rw (lt-ltb k.slot t.capacity l.low, l.loading, l.key, same_key_lem k.key, eq-eqb (slot_at t k.slot).generation k.generation l.generation)

module _ (t : State) (v : Inv t) (k : LoadToken) (eo : outstanding t k ≡ true) where
  loads : Loads t k
  loads = outstanding_loads t k eo

  held : occupied (slot_at t k.slot) ≡ true
  held = loading_occupied (slot_at t k.slot) loads.loading

  not_clean : is_clean (slot_at t k.slot) ≡ false
  not_clean = loading_not_clean (slot_at t k.slot) loads.loading

  pos : 0 < t.loading
  pos = loading_pos t v k.slot loads.low loads.loading

  -- "Publish makes the slot clean with the token's use number"
  pub publish_step : k.access_sequence ≤ t.next_access_sequence
      → (u : State) × (publish t k ≡ told u done) × Step t u k.slot (clean_slot k.key k.access_sequence) t.next_access_sequence t.next_load_generation (t.clean + 1) (t.loading - 1)
  unfolding publish
  publish_step hu =
      let s = clean_slot k.key k.access_sequence in
      let sf : Sifted t.capacity (put k.slot (some k.access_sequence) (last_in t.slots)) (t.eviction.len + 1) (insert_heap t.capacity t.eviction k.slot k.access_sequence) =
      insert_heap_lem t.capacity t.eviction (last_in t.slots) v.heap k.slot k.access_sequence loads.low (last_none (slot_at t k.slot) not_clean) (omega (arith, pos, slots_sum v, clean_len v)) v.heaped in
      let same = same_buckets t v k.slot loads.low s held (clean_occupied s refl) loads.key in (
        with_held (with_heap (with_slot t k.slot s) sf.heap) (t.clean + 1) (t.loading - 1),
        rw (sound_inv t v, eo, le-leb k.access_sequence t.next_access_sequence hu, sf.gives, lt-ltb 0 t.loading pos, ne_eqb t.clean MAX (omega (arith, slots_sum v, v.small))),
        stepped (inv_set v k.slot s loads.low t.index sf.heap (t.clean + 1) (t.loading - 1) refl (rw same v.chains) (rw same v.stack) (rw (last_clean s refl) sf.holds) sf.heaped (rw not_clean (omega arith)) (rw loads.loading (omega (arith, pos)))) loads.low refl refl,
      )

  -- "Abort frees the slot."
  pub abort_step : (u : State) × (abort t k ≡ told u done) × Step t u k.slot vacant_slot t.next_access_sequence t.next_load_generation t.clean (t.loading - 1)
  unfolding abort
  abort_step =
      let hf : put k.slot none (last_in t.slots) ≡ last_in t.slots = put_same k.slot none (last_in t.slots) (last_none (slot_at t k.slot) not_clean) in (
        with_held (with_index (with_slot t k.slot vacant_slot) (vacated t v k.slot loads.low k.key held loads.key)) t.clean (t.loading - 1),
        rw (sound_inv t v, eo, vacate_gives t v k.slot loads.low k.key held loads.key, lt-ltb 0 t.loading pos),
        stepped (emptied t v k.slot loads.low k.key held loads.key t.eviction t.clean (t.loading - 1) (rw hf v.heap) v.heaped (rw not_clean (omega arith)) (rw loads.loading (omega (arith, pos)))) loads.low refl refl,
      )
