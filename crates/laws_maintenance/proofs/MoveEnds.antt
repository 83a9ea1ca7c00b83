-- SPDX-License-Identifier: Apache-2.0
-- "those refused by a chain removed", and the list has the new slots of the others: that does not stop, and no slot waits after. Assumes nothing.
use Prim.Native.Nat.{ℕ, ◌+◌, ◌<◌}
use native.Mathlib.Omega.{arith}
use mathlib.Core.Path.{◌≡◌, refl, sym, ap, ◌∙◌}
use mathlib.Core.Logic.{inl, inr}
use mathlib.Core.Bool.{true, false, false≢true}
use mathlib.Core.List.{List}
use lib.Dec.{eqb}
use lib.ListN.{set, length-set}
use lib.Seq.{get_or-set_same, get_or-set_other}
use borrow.Author.Tests.{eqb-true, eqb-false}
use Rattle.basics.specs.Numbers.{NONE}
use Rattle.basics.specs.Lists.{each_slot}
use Rattle.basics.proofs.Tests.{yes!, no!, is}
use Rattle.state.specs.declared.State.{State}
use Rattle.state.specs.Slots.{slot_at, vacant_slot, is_clean}
use Rattle.maintenance_resize.specs.Move.{Moving, moving_of, move_or_remove, move_rest}
use Rattle.laws_table.specs.Table.{Absent, Step}
use Rattle.laws_table.proofs.StepLeave.{remove_step}
use Rattle.laws_maintenance.specs.Calm.{Present}
use Rattle.laws_maintenance.proofs.Loops.{Reaches, each_slot_lem}
use Rattle.laws_maintenance.proofs.CalmTables.{not_present, there!, absent!, peeked}
use Rattle.laws_maintenance.proofs.SlotLeaves.{out_other, out_unclean, out_clean, out_was, less_out}
use Rattle.laws_maintenance.proofs.MoveFates.{choked!, Fate, waits!, went!, gone!, Going, turned}
use Rattle.laws_maintenance.proofs.MoveRestores.{Settled, Filling}

-- no slot before k waits; each key left is settled
pub record Ending (t : State) (pins : List ℕ) (n : State) (k : ℕ) (m : Moving) : Type 0 where
  pub going : Going t pins n k m
  pub settled : (s : ℕ) → s < t.capacity → is_clean (slot_at m.old s) ≡ true → Settled m.new (slot_at t s).key

-- ── the steps ──
module _ {t : State} {pins : List ℕ} {n : State} {k : ℕ} {m : Moving} (f : Ending t pins n k m) (hk : k < t.capacity) where
  -- a slot that is not clean does not wait
  end_skip : is_clean (slot_at m.old k) ≡ false → Ending t pins n (k + 1) m
  end_skip c =
      let g = f.going in
      record {
        going = record {
          old = g.old;
          new = g.new;
          over = g.over;
          size = g.size;
          plain = g.plain;
          fates = λ s hs cs. elim (g.fates s hs cs) [
            | waits! x y z ↦ waits! (elim (is (eqb s k)) [ yes! e ↦ absurd (false≢true (sym c ∙ ap (λ (j : ℕ). is_clean (slot_at m.old j)) (sym (eqb-true s k e)) ∙ ap is_clean y ∙ cs)) | no! e ↦ omega (arith, eqb-false s k e) ]) y z
            | went! p q ↦ went! p q
            | gone! x y z why ↦ gone! x y z why
          ];
        };
        settled = f.settled;
      }

  end_move : is_clean (slot_at t k) ≡ true → (p : Present m.new (slot_at t k).key) → Ending t pins n (k + 1) (moving_of m.old m.new (set m.list k p.slot))
  end_move c p =
      let g = f.going in
      record {
        going = turned (k + 1) k m.old (set m.list k p.slot) g g.old (λ s ne. refl) (λ s e. e) (length-set m.list k p.slot) (λ s ne. get_or-set_other m.list k s p.slot NONE ne) (λ s ne h. omega arith) c
            (went! p (get_or-set_same m.list k p.slot NONE (omega (arith, g.size))));
        settled = f.settled;
      }

  end_remove : is_clean (slot_at m.old k) ≡ true → Absent m.new (slot_at t k).key → {u : State} {nc : ℕ} → Step m.old u k vacant_slot m.old.next_access_sequence m.old.next_load_generation nc m.old.loading
      → Ending t pins n (k + 1) (moving_of u m.new m.list)
  end_remove c a {u} d =
      let g = f.going in
      let v = g.old.inv in
      let ct : is_clean (slot_at t k) ≡ true = rw (g.old.part k c) at c in
      let out = out_unclean v d in
      let fate : Fate t pins (k + 1) (moving_of u m.new m.list) k = elim (g.fates k hk ct) [
        | waits! x y z ↦ gone! out z a (elim (f.settled k hk c) [ inl p ↦ absurd (not_present a p) | inr b ↦ choked! b ])
        | went! p q ↦ absurd (not_present a p)
        | gone! x y z why ↦ absurd (false≢true (sym x ∙ c))
      ] in
      record {
        going = turned (k + 1) k u m.list g (less_out g.old d) (out_other v d) (out_was v d) refl (λ s ne. refl) (λ s ne h. omega arith) ct fate;
        settled = λ s hs e. f.settled s hs (rw (out_clean v d s e) at e);
      }

end_step : (t : State) (pins : List ℕ) (n : State) (k : ℕ) (m : Moving) → k < t.capacity → Ending t pins n k m → Reaches (Ending t pins n (k + 1)) (move_rest k m)
unfolding move_rest move_or_remove
end_step t pins n k m hk f =
    elim (is (is_clean (slot_at m.old k))) [
      | no! e ↦ rw e (record { value = m; gives = refl; good = end_skip f hk e })
      | yes! e ↦
          let lo = f.going.old in
          let same : slot_at m.old k ≡ slot_at t k = lo.part k e in
          let c : is_clean (slot_at t k) ≡ true = rw same at e in
          rw (e, same) (elim (peeked m.new f.going.new.calm (slot_at t k).key) [
            | there! p q ↦ rw q (record { value = moving_of m.old m.new (set m.list k p.slot); gives = refl; good = end_move f hk c p })
            | absent! a q ↦
                let (u, z, d) = remove_step m.old lo.inv k (omega (arith, lo.capacity)) e in
                rw (q, z) (record { value = moving_of u m.new m.list; gives = refl; good = end_remove f hk e a d })
          ])
    ]

-- ── the whole `for` ──
pub move_rest_lem : (t : State) (pins : List ℕ) (n : State) (m : Moving) → Filling t pins n t.capacity m → Reaches (Ending t pins n t.capacity) (each_slot move_rest t.capacity 0 m)
move_rest_lem t pins n m f = each_slot_lem move_rest (Ending t pins n) t.capacity (end_step t pins n) m (record { going = f.going; settled = f.settled })
