-- SPDX-License-Identifier: Apache-2.0
-- What removals leave, slot by slot; and that the table is valid after. Assumes nothing.
use Prim.Native.Nat.{ℕ, ◌-◌, ◌<◌}
use native.Mathlib.Omega.{arith}
use mathlib.Core.Path.{◌≡◌, refl, sym, ap, ◌∙◌}
use mathlib.Core.Bool.{true, false≢true}
use mathlib.Core.List.{List, [], ◌∷◌, ◌++◌}
use lib.Dec.{eqb}
use borrow.Author.Tests.{eqb-true, eqb-false}
use Rattle.basics.specs.Members.{In}
use Rattle.basics.proofs.Tests.{yes!, no!, is}
use Rattle.basics.proofs.Members.{in_none}
use Rattle.eviction.specs.Victim.{unpinned}
use Rattle.state.specs.declared.State.{State}
use Rattle.state.specs.Slots.{slot_at, vacant_slot, is_clean}
use Rattle.laws_table.specs.Table.{Inv, Valid, Step}
use Rattle.laws_table.proofs.StepParts.{clean_pos}
use Rattle.laws_table.proofs.ValidSteps.{valid_vacant}
use Rattle.laws_maintenance.specs.Reclaim.{Removals, none_yet!, one_more! }
use Rattle.laws_maintenance.specs.Reclaimed.{Reclaimed}
use Rattle.laws_maintenance.proofs.Lists.{in_front_lem, in_end, end_case, length_end, once_end}
use Rattle.laws_maintenance.proofs.SlotLeaves.{out_here, out_other}

-- one more removal
reclaimed_more : {t u w : State} {pins xs : List ℕ} (x : ℕ) → Reclaimed t pins u xs → is_clean (slot_at u x) ≡ true → unpinned pins x ≡ true
    → Step u w x vacant_slot u.next_access_sequence u.next_load_generation (u.clean - 1) u.loading → Reclaimed t pins w (xs ++ (x ∷ []))
reclaimed_more {t} {u} {w} {pins} {xs} x r c f p =
    let new : In x xs → ⊥ = λ m. false≢true (ap is_clean (sym (r.out x m)) ∙ c) in
    let ends : (P : ℕ → Type 0) → ((s : ℕ) → In s xs → P s) → P x → (s : ℕ) → In s (xs ++ (x ∷ [])) → P s = λ P a b s m. end_case xs x m (a s) (λ e. rw e b) in
    record {
      inv = p.inv;
      capacity = p.capacity ∙ r.capacity;
      clean = omega (arith, p.clean, r.clean, length_end xs x, clean_pos u r.inv x p.low c);
      loading = p.loading ∙ r.loading;
      uses = p.uses ∙ r.uses;
      generations = p.generations ∙ r.generations;
      low = ends (λ s. s < t.capacity) r.low (omega (arith, p.low, r.capacity));
      held = ends (λ s. is_clean (slot_at t s) ≡ true) r.held (ap is_clean (sym (r.stays x new)) ∙ c);
      free = ends (λ s. unpinned pins s ≡ true) r.free f;
      out = ends (λ s. slot_at w s ≡ vacant_slot) (λ s m. elim (is (eqb s x)) [
        | yes! e ↦ rw (eqb-true s x e) (out_here r.inv p)
        | no! e ↦ out_other r.inv p s (eqb-false s x e) ∙ r.out s m
      ]) (out_here r.inv p);
      once = once_end xs x r.once new;
      stays = λ s n. out_other r.inv p s (λ e. n (rw e (in_end xs x))) ∙ r.stays s (λ m. n (in_front_lem x m));
    }

-- a recursion over removals keeps the pins, so these two have them first
reclaimed_over : {pins : List ℕ} {t u : State} {xs : List ℕ} → Inv t → Removals pins t u xs → Reclaimed t pins u xs
reclaimed_over v none_yet! =
    record {
      inv = v;
      capacity = refl;
      clean = omega arith;
      loading = refl;
      uses = refl;
      generations = refl;
      low = λ s m. in_none m;
      held = λ s m. in_none m;
      free = λ s m. in_none m;
      out = λ s m. in_none m;
      once = tt;
      stays = λ s n. refl;
    }
reclaimed_over v (one_more! x rs e c f p) = reclaimed_more x (reclaimed_over v rs) c f p

removed_valid : {pins : List ℕ} {t u : State} {xs : List ℕ} → Valid t → Removals pins t u xs → Valid u
removed_valid w none_yet! = w
removed_valid w (one_more! {u = u} x rs e c f p) = valid_vacant u (removed_valid w rs) p

pub reclaimed : {t u : State} {pins xs : List ℕ} → Inv t → Removals pins t u xs → Reclaimed t pins u xs
reclaimed v rs = reclaimed_over v rs

pub removals_valid : {t u : State} {pins xs : List ℕ} → Valid t → Removals pins t u xs → Valid u
removals_valid w rs = removed_valid w rs
