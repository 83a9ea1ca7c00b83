-- SPDX-License-Identifier: Apache-2.0
-- The first `for` of a remaking does not stop: the keys that the new table has leave the old one, and the list has their new slots; what is left
-- in the old table and what is in the new one are no more than the old table had. Assumes nothing.
use Prim.Native.Nat.{ℕ, ◌+◌, ◌-◌, ◌<◌, ◌≤◌}
use native.Mathlib.Omega.{arith}
use mathlib.Core.Path.{◌≡◌, refl, sym, ap, ◌∙◌, subst}
use mathlib.Core.Logic.{◌⊎◌, inl, inr}
use mathlib.Core.Bool.{true, false≢true}
use mathlib.Core.List.{List}
use lib.Dec.{ltb, eqb}
use lib.ListN.{set, length-set, replicate, length-replicate}
use lib.Seq.{get_or-set_same, get_or-set_other}
use borrow.Author.Tests.{eqb-true, eqb-false, ltb-true, ltb-false}
use Rattle.basics.specs.Numbers.{NONE}
use Rattle.basics.specs.Lists.{each_slot}
use Rattle.basics.proofs.Tests.{yes!, no!, is}
use Rattle.eviction.specs.Entries.{at, pos_of}
use Rattle.state.specs.declared.Slot.{Slot}
use Rattle.state.specs.declared.State.{State}
use Rattle.state.specs.Slots.{slot_at, vacant_slot, is_clean}
use Rattle.maintenance_resize.specs.Move.{Moving, moving_of, leave_to, leave_pinned}
use Rattle.laws_table.specs.Table.{Inv, Absent, Step}
use Rattle.laws_table.proofs.SlotKinds.{clean_occupied}
use Rattle.laws_table.proofs.TableParts.{at_place, place_of_lem, clean_len}
use Rattle.laws_table.proofs.StepLeave.{detach_step}
use Rattle.laws_maintenance.specs.Calm.{Calm, Present}
use Rattle.laws_maintenance.specs.Drawn.{Drawn}
use Rattle.laws_maintenance.proofs.Lists.{fewer, all_same}
use Rattle.laws_maintenance.proofs.Loops.{Reaches, each_slot_lem}
use Rattle.laws_maintenance.proofs.CalmTables.{there!, absent!, peeked}
use Rattle.laws_maintenance.proofs.SlotLeaves.{out_other, out_unclean, out_clean, out_was, Less, less_all, less_out}
use Rattle.laws_maintenance.proofs.Draws.{over_refl}
use Rattle.laws_maintenance.proofs.ChainRoom.{Same, same_one}
use Rattle.laws_maintenance.proofs.Candidates.{OnlyPinned}
use Rattle.laws_maintenance.proofs.MoveFates.{waits!, went!, Going, turned}

-- the slots of the old table below k have no key of the new one, which has only pinned keys
pub record Leaving (t : State) (pins : List ℕ) (n : State) (k : ℕ) (m : Moving) : Type 0 where
  pub going : Going t pins n 0 m
  pub apart : (s : ℕ) → s < k → is_clean (slot_at m.old s) ≡ true → Absent m.new (slot_at m.old s).key
  pub only : OnlyPinned t pins m.new

-- ── the steps ──
module _ {t : State} {pins : List ℕ} {n : State} {k : ℕ} {m : Moving} (r : Leaving t pins n k m) (hk : k < t.capacity) where
  stays_next : (is_clean (slot_at m.old k) ≡ true → Absent m.new (slot_at m.old k).key) → Leaving t pins n (k + 1) m
  stays_next a =
      record {
        going = r.going;
        apart = λ s hs c. elim (is (eqb s k)) [ yes! e ↦ let q : s ≡ k = eqb-true s k e in rw q (a (rw q at c)) | no! e ↦ r.apart s (omega (arith, eqb-false s k e)) c ];
        only = r.only;
      }

  leaves_next : is_clean (slot_at m.old k) ≡ true → (p : Present m.new (slot_at m.old k).key) → {u : State} {nc : ℕ} → Step m.old u k vacant_slot m.old.next_access_sequence m.old.next_load_generation nc m.old.loading
      → Leaving t pins n (k + 1) (moving_of u m.new (set m.list k p.slot))
  leaves_next c p {u} d =
      let g = r.going in
      let v = g.old.inv in
      let same : slot_at m.old k ≡ slot_at t k = g.old.part k c in
      let there : Present m.new (slot_at t k).key = record { slot = p.slot; low = p.low; clean = p.clean; key = p.key ∙ ap (λ (z : Slot). z.key) same } in
      record {
        going = turned 0 k u (set m.list k p.slot) g (less_out g.old d) (out_other v d) (out_was v d) (length-set m.list k p.slot) (λ s ne. get_or-set_other m.list k s p.slot NONE ne) (λ s ne h. h) (rw same at c)
            (went! there (get_or-set_same m.list k p.slot NONE (omega (arith, g.size))));
        apart = λ s hs e. elim (is (eqb s k)) [
          | yes! q ↦ absurd (false≢true (sym (out_unclean v d) ∙ (rw (eqb-true s k q) at e)))
          | no! q ↦ let z = out_clean v d s e in rw z (r.apart s (omega (arith, eqb-false s k q)) (rw z at e))
        ];
        only = r.only;
      }

leave_step : (t : State) (pins : List ℕ) (n : State) (k : ℕ) (m : Moving) → k < t.capacity → Leaving t pins n k m → Reaches (Leaving t pins n (k + 1)) (leave_pinned k m)
unfolding leave_pinned leave_to
leave_step t pins n k m hk r =
    elim (is (is_clean (slot_at m.old k))) [
      | no! e ↦ rw e (record { value = m; gives = refl; good = stays_next r hk (λ c. absurd (false≢true (sym e ∙ c))) })
      | yes! e ↦ rw e (elim (peeked m.new r.going.new.calm (slot_at m.old k).key) [
        | absent! a q ↦ rw q (record { value = m; gives = refl; good = stays_next r hk (λ c. a) })
        | there! p q ↦
            let (u, z, d) = detach_step m.old r.going.old.inv k (omega (arith, r.going.old.capacity)) e in
            rw (q, z) (record { value = moving_of u m.new (set m.list k p.slot); gives = refl; good = leaves_next r hk e p d })
      ])
    ]

-- ── the whole `for` ──
pub leave_pinned_lem : (t : State) → Calm t → (pins : List ℕ) (n : State) → Drawn t n → OnlyPinned t pins n → Reaches (Leaving t pins n t.capacity) (each_slot leave_pinned t.capacity 0 (moving_of t n (replicate t.capacity NONE)))
leave_pinned_lem t w pins n d only =
    each_slot_lem leave_pinned (Leaving t pins n) t.capacity (leave_step t pins n) (moving_of t n (replicate t.capacity NONE)) (record {
      going = record {
        old = less_all t w.inv w.quiet;
        new = d;
        over = over_refl n;
        size = length-replicate t.capacity NONE;
        plain = λ s c. all_same t.capacity s NONE;
        fates = λ s hs c. waits! (omega arith) refl (all_same t.capacity s NONE);
      };
      apart = λ s hs. absurd (omega arith);
      only = only;
    })

-- ── what is left and what is drawn had room in the old table ──
module _ (t o n : State) (tv : Inv t) (lo : Less t o) (d : Drawn t n) (apart : (s : ℕ) → s < t.capacity → is_clean (slot_at o s) ≡ true → Absent n (slot_at o s).key) where
  -- the slots of both heaps, one after the other
  abbrev old_slot : ℕ → ℕ
  old_slot i = (at o.eviction i).slot

  abbrev new_slot : ℕ → ℕ
  new_slot i = (at n.eviction (i - o.clean)).slot

  -- the slot q of t that the place i has its key from
  abbrev Of : ℕ → ℕ → Type 0
  Of i q = ((i < o.clean) × (old_slot i ≡ q)) ⊎ ((o.clean ≤ i) × (i < o.clean + n.clean) × Same t n (new_slot i) q)

  found : (i : ℕ) → i < o.clean + n.clean → (q : ℕ) × (q < t.capacity) × (is_clean (slot_at t q) ≡ true) × Of i q
  found i hi =
      elim (is (ltb i o.clean)) [
        | yes! e ↦
            let h : i < o.clean = ltb-true i o.clean e in
            let (low, c, l) = at_place lo.inv i (omega (arith, clean_len lo.inv)) in
            (old_slot i, omega (arith, lo.capacity), rw (lo.part (old_slot i) c) at c, inl (h, refl))
        | no! e ↦
            let h : o.clean ≤ i = ltb-false i o.clean e in
            let (low, c, l) = at_place d.calm.inv (i - o.clean) (omega (arith, clean_len d.calm.inv)) in
            let g = d.origin (new_slot i) low c in
            (g.slot, g.low, g.clean, inr (h, hi, (low, c, g.key)))
      ]

  placed : (i : ℕ) → i < o.clean + n.clean → (p : ℕ) × (p < t.clean) × Of i (at t.eviction p).slot
  placed i hi =
      let (q, hq, c, f) = found i hi in
      let (low, same) = place_of_lem tv q hq c in
      (pos_of t.eviction q, omega (arith, clean_len tv), subst (λ (y : ℕ). Of i y) (sym same) f)

  clash : (i x q : ℕ) → i < o.clean → old_slot i ≡ q → Same t n x q → ⊥
  clash i x q hi e s =
      let (low, c, l) = at_place lo.inv i (omega (arith, clean_len lo.inv)) in
      apart (old_slot i) (omega (arith, lo.capacity)) c x s.0 (clean_occupied (slot_at n x) s.1) (s.2 ∙ sym (ap (λ (z : Slot). z.key) (lo.part (old_slot i) c) ∙ ap (λ (z : ℕ). (slot_at t z).key) e))

  place_one : (u : State) → Inv u → (i j : ℕ) → i < u.clean → j < u.clean → (at u.eviction i).slot ≡ (at u.eviction j).slot → i ≡ j
  place_one u v i j hi hj e = sym (v.heap.back i (omega (arith, clean_len v))) ∙ ap (pos_of u.eviction) e ∙ v.heap.back j (omega (arith, clean_len v))

  one : (i j q : ℕ) → Of i q → Of j q → i ≡ j
  one i j q (inl a) (inl b) = place_one o lo.inv i j a.0 b.0 (a.1 ∙ sym b.1)
  one i j q (inl a) (inr b) = absurd (clash i (new_slot j) q a.0 a.1 b.2)
  one i j q (inr a) (inl b) = absurd (clash j (new_slot i) q b.0 b.1 a.2)
  one i j q (inr a) (inr b) =
      let z = place_one n d.calm.inv (i - o.clean) (j - o.clean) (omega arith) (omega arith) (same_one t n d.calm (new_slot i) (new_slot j) q a.2 b.2) in
      omega arith

  pub both_fit : o.clean + n.clean ≤ t.clean
  both_fit = fewer (λ i p. Of i (at t.eviction p).slot) (o.clean + n.clean) t.clean placed (λ i j p. one i j (at t.eviction p).slot)
