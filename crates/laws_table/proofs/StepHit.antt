-- SPDX-License-Identifier: Apache-2.0
-- A hit does not stop: it dates the slot by the next use number and changes no other. Assumes nothing.
use Prim.Native.Nat.{ℕ, ◌+◌, ◌<◌, ◌≤◌}
use native.Mathlib.Omega.{arith}
use mathlib.Core.Path.{◌≡◌, refl}
use mathlib.Core.Bool.{true}
use mathlib.Core.Option.{some}
use borrow.Author.Tests.{ne_eqb}
use Rattle.basics.specs.Try.{ok}
use Rattle.basics.specs.Numbers.{MAX}
use Rattle.basics.proofs.Maps.{put}
use Rattle.key.specs.declared.CacheKey.{CacheKey}
use Rattle.eviction.specs.Heap.{touch_heap}
use Rattle.state.specs.declared.State.{State}
use Rattle.state.specs.Slots.{slot_at, clean_slot, is_clean}
use Rattle.state.specs.Parts.{with_slot, with_heap, with_numbers, with_counters, count_hit}
use Rattle.state.specs.Find.{found, touch_next, hit_at}
use Rattle.laws_table.specs.Table.{last_in, Inv, Step}
use Rattle.laws_table.proofs.Sifts.{Sifted}
use Rattle.laws_table.proofs.HeapTouch.{touch_heap_lem}
use Rattle.laws_table.proofs.SlotKinds.{clean_occupied, clean_not_loading, last_clean}
use Rattle.laws_table.proofs.TableParts.{inv_set}
use Rattle.laws_table.proofs.StepParts.{stepped, same_buckets}

pub hit_step : (t : State) → Inv t → (x : ℕ) → x < t.capacity → (key : CacheKey) → is_clean (slot_at t x) ≡ true → (slot_at t x).key ≡ key → (slot_at t x).last_access ≤ t.next_access_sequence → (t.next_access_sequence ≡ MAX → ⊥)
    → (u : State) × (hit_at t key x ≡ ok (record { table = u; seen = found x })) × Step t u x (clean_slot key (t.next_access_sequence + 1)) (t.next_access_sequence + 1) t.next_load_generation t.clean t.loading
unfolding hit_at touch_next
hit_step t v x hx key ec ek el em =
    let n : ℕ = t.next_access_sequence + 1 in
    let sf : Sifted t.capacity (put x (some n) (last_in t.slots)) t.eviction.len (touch_heap t.capacity t.eviction x n) =
    touch_heap_lem t.capacity t.eviction (last_in t.slots) v.heap x (slot_at t x).last_access n hx (last_clean (slot_at t x) ec) (omega arith) v.heaped in
    let same = same_buckets t v x hx (clean_slot key n) (clean_occupied (slot_at t x) ec) (clean_occupied (clean_slot key n) refl) ek in (
      with_counters (with_slot (with_numbers (with_heap t sf.heap) t.next_load_generation n) x (clean_slot key n)) (count_hit t.counters),
      rw (ne_eqb t.next_access_sequence MAX em, sf.gives),
      stepped (inv_set v x (clean_slot key n) hx t.index sf.heap t.clean t.loading refl (rw same v.chains) (rw same v.stack) (rw (last_clean (clean_slot key n) refl) sf.holds) sf.heaped (rw ec) (rw (clean_not_loading (slot_at t x) ec))) hx refl refl,
    )
