-- SPDX-License-Identifier: Apache-2.0
-- Detaching and removing a clean slot do not stop: the slot is vacant after, and no other changes; and what `detach` and `remove` come to.
-- Assumes nothing.
use Prim.Native.Nat.{ℕ, ◌-◌, ◌<◌, ◌≤◌}
use native.Mathlib.Omega.{arith}
use mathlib.Core.Path.{◌≡◌, refl}
use mathlib.Core.Bool.{true, false}
use lib.Dec.{ltb}
use borrow.Author.Tests.{lt-ltb, ltb-true, ltb-false}
use Rattle.basics.specs.Try.{Try, ok, refuse, ◌>>=◌, ◌>>◌}
use Rattle.basics.specs.Refusals.{SLOT, UNCLEAN}
use Rattle.basics.specs.Answers.{Fine, done}
use Rattle.basics.proofs.Tests.{yes!, no!, is}
use Rattle.state.specs.declared.State.{State}
use Rattle.state.specs.Slots.{slot_at, vacant_slot, is_clean}
use Rattle.state.specs.Parts.{with_slot, with_index, with_heap, with_held, with_counters, count_eviction}
use Rattle.state.specs.Answers.{After, told, unless_refused}
use Rattle.state.specs.Remove.{detach_clean, remove_clean, need_clean, remove, detach}
use Rattle.laws_table.specs.Table.{Inv, Step}
use Rattle.laws_table.proofs.SlotKinds.{clean_occupied, clean_not_loading}
use Rattle.laws_table.proofs.TableParts.{sound_inv}
use Rattle.laws_table.proofs.StepParts.{stepped, clean_pos, out_of_heap, vacated, vacate_gives, emptied}

module _ (t : State) (v : Inv t) (x : ℕ) (hx : x < t.capacity) (ec : is_clean (slot_at t x) ≡ true) where
  pub detach_step : (u : State) × (detach_clean t x ≡ ok u) × Step t u x vacant_slot t.next_access_sequence t.next_load_generation (t.clean - 1) t.loading
  unfolding detach_clean
  detach_step =
      let pos = clean_pos t v x hx ec in
      let ho = clean_occupied (slot_at t x) ec in
      let sf = out_of_heap t v x hx ec in (
        with_held (with_heap (with_index (with_slot t x vacant_slot) (vacated t v x hx (slot_at t x).key ho refl)) sf.heap) (t.clean - 1) t.loading,
        rw (lt-ltb x t.capacity hx, ec, sf.gives, vacate_gives t v x hx (slot_at t x).key ho refl, lt-ltb 0 t.clean pos),
        stepped (emptied t v x hx (slot_at t x).key ho refl sf.heap (t.clean - 1) t.loading sf.holds sf.heaped (rw ec (omega arith)) (rw (clean_not_loading (slot_at t x) ec) (omega arith))) hx refl refl,
      )

  pub remove_step : (u : State) × (remove_clean t x ≡ ok u) × Step t u x vacant_slot t.next_access_sequence t.next_load_generation (t.clean - 1) t.loading
  unfolding remove_clean
  remove_step =
      let (u, e, s) = detach_step in (
        with_counters u (count_eviction u.counters),
        rw e,
        record {
          inv = s.inv;
          low = s.low;
          slots = s.slots;
          capacity = s.capacity;
          uses = s.uses;
          generations = s.generations;
          clean = s.clean;
          loading = s.loading;
        },
      )

-- ── the calls ──
-- 5, 8, or the slot's key leaves
pub data Left (t : State) (x : ℕ) (r : After Fine) : Type 0 where
  no_slot! : t.capacity ≤ x → r ≡ record { table = t; answer = refuse SLOT } → Left t x r
  unclean! : x < t.capacity → is_clean (slot_at t x) ≡ false → r ≡ record { table = t; answer = refuse UNCLEAN } → Left t x r
  left! : is_clean (slot_at t x) ≡ true → (u : State) → r ≡ told u done → Step t u x vacant_slot t.next_access_sequence t.next_load_generation (t.clean - 1) t.loading → Left t x r

module _ (t : State) (v : Inv t) (x : ℕ) where
  leaves : (go : Try State) → (x < t.capacity → is_clean (slot_at t x) ≡ true → (u : State) × (go ≡ ok u) × Step t u x vacant_slot t.next_access_sequence t.next_load_generation (t.clean - 1) t.loading)
      → Left t x (unless_refused t (need_clean t x >> go >>= λ u. ok (told u done)))
  unfolding need_clean
  leaves go step =
      rw (sound_inv t v) (elim (is (ltb x t.capacity)) [
        | no! e ↦ rw e (no_slot! (ltb-false x t.capacity e) refl)
        | yes! e ↦ elim (is (is_clean (slot_at t x))) [
          | no! q ↦ rw (e, q) (unclean! (ltb-true x t.capacity e) q refl)
          | yes! q ↦ let (u, z, s) = step (ltb-true x t.capacity e) q in rw (e, q, z) (left! q u refl s)
        ]
      ])

  pub detached : Left t x (detach t x)
  unfolding detach
  detached = leaves (detach_clean t x) (detach_step t v x)

  pub removed : Left t x (remove t x)
  unfolding remove
  removed = leaves (remove_clean t x) (remove_step t v x)
