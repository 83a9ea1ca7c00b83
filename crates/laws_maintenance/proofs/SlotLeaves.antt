-- SPDX-License-Identifier: Apache-2.0
-- A clean slot that leaves: it is vacant, the others stay; and what is left of a table. Assumes nothing.
use Prim.Native.Nat.{ℕ}
use mathlib.Core.Path.{◌≡◌, refl, sym, ap, ◌∙◌}
use mathlib.Core.Bool.{true, false, false≢true}
use Rattle.state.specs.declared.State.{State}
use Rattle.state.specs.Slots.{slot_at, vacant_slot, is_clean}
use Rattle.laws_table.specs.Table.{Inv, Step}
use Rattle.laws_table.proofs.ValidSteps.{step_here, step_other}

module _ {o u : State} {x nu ng nc nl : ℕ} (v : Inv o) (p : Step o u x vacant_slot nu ng nc nl) where
  pub out_here : slot_at u x ≡ vacant_slot
  out_here = step_here p v

  pub out_other : (s : ℕ) → (s ≡ x → ⊥) → slot_at u s ≡ slot_at o s
  out_other s n = step_other p s n

  pub out_unclean : is_clean (slot_at u x) ≡ false
  out_unclean = ap is_clean out_here

  -- what is clean after was clean before
  pub out_clean : (s : ℕ) → is_clean (slot_at u s) ≡ true → slot_at u s ≡ slot_at o s
  out_clean s e = out_other s (λ q. false≢true (sym out_unclean ∙ (rw q at e)))

  pub out_was : (s : ℕ) → is_clean (slot_at u s) ≡ true → is_clean (slot_at o s) ≡ true
  out_was s e = ap is_clean (sym (out_clean s e)) ∙ e

-- o is what is left of t: some clean slots of t, and no other
pub record Less (t o : State) : Type 0 where
  pub inv : Inv o
  pub quiet : o.loading ≡ 0
  pub capacity : o.capacity ≡ t.capacity
  pub part : (s : ℕ) → is_clean (slot_at o s) ≡ true → slot_at o s ≡ slot_at t s
  pub uses : o.next_access_sequence ≡ t.next_access_sequence
  pub generations : o.next_load_generation ≡ t.next_load_generation

pub less_all : (t : State) → Inv t → t.loading ≡ 0 → Less t t
less_all t v q = record { inv = v; quiet = q; capacity = refl; part = λ s e. refl; uses = refl; generations = refl }

pub less_out : {t o u : State} {x nc : ℕ} → Less t o → Step o u x vacant_slot o.next_access_sequence o.next_load_generation nc o.loading → Less t u
less_out l p =
    record {
      inv = p.inv;
      quiet = p.loading ∙ l.quiet;
      capacity = p.capacity ∙ l.capacity;
      part = λ s e. let same = out_clean l.inv p s e in same ∙ l.part s (rw same at e);
      uses = p.uses ∙ l.uses;
      generations = p.generations ∙ l.generations;
    }
