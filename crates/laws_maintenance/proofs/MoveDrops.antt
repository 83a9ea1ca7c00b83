-- SPDX-License-Identifier: Apache-2.0
-- "oldest unpinned keys are removed until the rest fits" does not stop: what is left fits; a key goes only where the old table had more keys than
-- the new one has slots, and where no unpinned key that is left was used before it. Assumes nothing.
use Prim.Native.Nat.{ℕ, zero, suc, ◌-◌, ◌<◌, ◌≤◌}
use native.Mathlib.Omega.{arith}
use mathlib.Core.Path.{◌≡◌, refl, sym, ap, ◌∙◌}
use mathlib.Core.Bool.{true, false≢true}
use mathlib.Core.Logic.{inl, inr}
use mathlib.Core.List.{List}
use mathlib.Core.Option.{some}
use lib.Dec.{leb}
use borrow.Author.Tests.{leb-true, leb-false, lt-ltb}
use Rattle.basics.specs.Try.{ok}
use Rattle.basics.proofs.Tests.{yes!, no!, is, ok_same, some_same}
use Rattle.eviction.specs.Entries.{at}
use Rattle.state.specs.declared.Slot.{Slot}
use Rattle.state.specs.declared.State.{State}
use Rattle.state.specs.Slots.{slot_at, vacant_slot, is_clean}
use Rattle.state.specs.Reads.{cold_candidate, oldest_clean}
use Rattle.eviction.specs.Victim.{oldest_of, unpinned}
use Rattle.maintenance_resize.specs.Move.{Moving, moving_of, drop_oldest}
use Rattle.laws_table.specs.Table.{Inv, Step}
use Rattle.laws_table.proofs.TableParts.{at_place, clean_len}
use Rattle.laws_table.proofs.TableReads.{oldest!, no_clean!, oldest_law, cold_law}
use Rattle.laws_table.proofs.StepLeave.{remove_step}
use Rattle.laws_maintenance.proofs.Loops.{Reaches}
use Rattle.laws_maintenance.proofs.CalmTables.{not_present}
use Rattle.laws_maintenance.proofs.SlotLeaves.{out_other, out_unclean, out_clean, out_was, less_out}
use Rattle.laws_maintenance.proofs.MoveFates.{Left, dropped!, Fate, waits!, went!, gone!, turned}
use Rattle.laws_maintenance.proofs.MoveLeaves.{Leaving, both_fit}

-- ── the oldest ──
abbrev root_of : State → ℕ
root_of o = (at o.eviction 0).slot

root_read : (o : State) → Inv o → 0 < o.eviction.len → oldest_clean o ≡ ok (some (root_of o))
unfolding oldest_clean oldest_of cold_candidate
root_read o v pos = cold_law o v 0 pos

root_oldest : (o : State) → Inv o → 0 < o.eviction.len → (s : ℕ) → s < o.capacity → is_clean (slot_at o s) ≡ true → (slot_at o (root_of o)).last_access ≤ (slot_at o s).last_access
root_oldest o v pos s hs c =
    elim (oldest_law o v) [
      | no_clean! n e ↦ absurd (n s hs c)
      | oldest! x hx cx h e ↦ let same : root_of o ≡ x = some_same (ok_same (sym (root_read o v pos) ∙ e)) in rw same (h s hs c)
    ]

-- ── one key goes ──
-- the root leaves, and u is left
abbrev RootOut : State → State → Type 0
RootOut o u = Step o u (root_of o) vacant_slot o.next_access_sequence o.next_load_generation (o.clean - 1) o.loading

drop_one : {t : State} {pins : List ℕ} {n : State} {m : Moving} → Inv t → Leaving t pins n t.capacity m → m.new.capacity - m.new.clean < m.old.clean → (u : State) → RootOut m.old u → Leaving t pins n t.capacity (moving_of u m.new m.list)
drop_one {t} {pins} {m = m} tv r many u d =
    let g = r.going in
    let v = g.old.inv in
    let x : ℕ = root_of m.old in
    let pos : 0 < m.old.eviction.len = omega (arith, clean_len v) in
    let (low, c, l) = at_place v 0 pos in
    let ht : x < t.capacity = omega (arith, g.old.capacity) in
    let same : slot_at m.old x ≡ slot_at t x = g.old.part x c in
    let ct : is_clean (slot_at t x) ≡ true = rw same at c in
    let oldest : (s : ℕ) → s < t.capacity → is_clean (slot_at t s) ≡ true → unpinned pins s ≡ true → Left t (moving_of u m.new m.list) s → (slot_at t x).last_access ≤ (slot_at t s).last_access = λ s hs cs us k. elim k [
      | inl p ↦ absurd (not_present (r.only s hs cs us) p)
      | inr w ↦
          let old = out_was v d s w in
          omega (arith, root_oldest m.old v pos s (omega (arith, g.old.capacity)) old, ap (λ (z : Slot). z.last_access) same, ap (λ (z : Slot). z.last_access) (g.old.part s old))
    ] in
    let fate : Fate t pins 0 (moving_of u m.new m.list) x = elim (g.fates x ht ct) [
      | waits! a b q ↦ gone! (out_unclean v d) q (rw same at (r.apart x ht c)) (dropped! (omega (arith, both_fit t m.old m.new tv g.old g.new r.apart)) oldest)
      | went! p q ↦ went! p q
      | gone! a b q y ↦ absurd (false≢true (sym a ∙ c))
    ] in
    record {
      going = turned 0 x u m.list g (less_out g.old d) (out_other v d) (out_was v d) refl (λ s ne. refl) (λ s ne h. h) ct fate;
      apart = λ s hs e. let z = out_clean v d s e in rw z (r.apart s hs (rw z at e));
      only = r.only;
    }

-- ── the whole ──
-- what is left fits
pub record Dropped (t : State) (pins : List ℕ) (n : State) (m : Moving) : Type 0 where
  pub left : Leaving t pins n t.capacity m
  pub fits : m.old.clean ≤ m.new.capacity - m.new.clean

module _ (t : State) (tv : Inv t) (pins : List ℕ) (n : State) where
  drop_step : (left : ℕ) (m : Moving) → Leaving t pins n t.capacity m
      → ((u : State) → u.clean < m.old.clean → Leaving t pins n t.capacity (moving_of u m.new m.list) → Reaches (Dropped t pins n) (drop_oldest left (moving_of u m.new m.list)))
      → Reaches (Dropped t pins n) (drop_oldest (suc left) m)
  unfolding drop_oldest
  drop_step left m r rest =
      elim (is (leb m.old.clean (m.new.capacity - m.new.clean))) [
        | yes! e ↦ rw e (record { value = m; gives = refl; good = record { left = r; fits = leb-true m.old.clean (m.new.capacity - m.new.clean) e } })
        | no! e ↦
            let many : m.new.capacity - m.new.clean < m.old.clean = leb-false m.old.clean (m.new.capacity - m.new.clean) e in
            let v = r.going.old.inv in
            let pos : 0 < m.old.eviction.len = omega (arith, clean_len v) in
            let (low, c, l) = at_place v 0 pos in
            let (u, z, d) = remove_step m.old v (root_of m.old) low c in
            rw (e, lt-ltb 0 m.old.eviction.len pos, z) (rest u (omega (arith, d.clean)) (drop_one tv r many u d))
      ]

  pub drop_oldest_lem : (left : ℕ) (m : Moving) → m.old.clean < left → Leaving t pins n t.capacity m → Reaches (Dropped t pins n) (drop_oldest left m)
  drop_oldest_lem zero m h r = absurd (omega arith)
  drop_oldest_lem (suc left) m h r = drop_step left m r (λ u lt q. drop_oldest_lem left (moving_of u m.new m.list) (omega arith) q)
