-- SPDX-License-Identifier: Apache-2.0
-- The keys that a resize drops, counted slot beside list; and the cost by a resize with a list of zeros. Assumes nothing.
use Rattle.std.proofs.Common.{count_by}
use Rattle.std.proofs.lemmas.List.Recursion.{is_count_by}
use Rattle.std.proofs.lemmas.List.Sums.{length-filter}
use Rattle.std.specs.List.{filter, zip}
use Prim.Native.Nat.{ℕ, zero, suc, min, ◌+◌, ◌≤◌, ◌<◌}
use mathlib.Core.Path.{◌≡◌, refl, sym, ap, ◌∙◌}
use mathlib.Core.Bool.{Bool, true, false, cond, ◌&&◌}
use mathlib.Core.List.{List, [], ◌∷◌}
use native.Mathlib.Omega.{arith}
use lib.Dec.{eqb}
use lib.ListN.{get_or, length, take, replicate}
use Rattle.basics.specs.Numbers.{NONE}
use Rattle.basics.specs.Lists.{down}
use Rattle.basics.specs.Counts.{bit, count}
use Rattle.state.specs.declared.State.{State}
use Rattle.state.specs.declared.Slot.{Slot}
use Rattle.state.specs.Slots.{slot_at, vacant_slot, is_clean}
use Rattle.state.specs.Fresh.{sound}
use Rattle.state.proofs.Cases.{sound_sizes_lem}
use Rattle.basics.proofs.Tests.{yes!, no!, is}
use Rattle.std.proofs.lemmas.List.{take-replicate}
use Rattle.maintenance_resize.specs.Answers.{Resizing}
use Rattle.maintenance_resize.specs.Resize.{resize}
use Rattle.maintenance_resize.specs.Cost.{restores_of, dropped, Costs, by_answer, cost}

-- ---- a count from the front

one_more : (b : Bool) (n : ℕ) → bit b + n ≡ cond b (1 + n) n
one_more true n = refl
one_more false n = omega arith

-- std's count is the rules'
counted : {A : Type 0} (p : A → Bool) (l : List A) → count p l ≡ count_by p l
counted p l = is_count_by (count p) p refl (λ a l. one_more (p a) (count p l)) l

front : (p : ℕ → Bool) (n : ℕ) → count p (down (suc n)) ≡ bit (p 0) + count (λ x. p (suc x)) (down n)
unfolding down
front p zero = refl
front p (suc n) = omega (arith, front p n)

-- a test of pairs, made of each slot with the number beside it, as one of the slot's number
beside : (q : Slot × ℕ → Bool) (p : ℕ → Bool) (ss : List Slot) (ns : List ℕ) → length ns ≤ length ss
    → ((i : ℕ) → i < length ns → q (get_or ss i vacant_slot, get_or ns i NONE) ≡ p i) → count q (zip ss ns) ≡ count p (down (length ns))
unfolding down
beside q p [] [] l e = refl
beside q p (s ∷ ss) [] l e = refl
beside q p [] (n ∷ ns) l e = absurd (omega arith)
beside q p (s ∷ ss) (n ∷ ns) l e =
    let rest = beside q (λ i. p (suc i)) ss ns (omega arith) (λ i h. e (suc i) (omega arith)) in
    omega (arith, ap bit (e 0 (omega arith)), rest, front p (length ns))

-- the rule as a test of each slot with its place of the list
pub dropped_all : (t : State) (list : List ℕ) → t.capacity ≤ 256 → length t.slots ≡ 256 → length list ≡ t.capacity
    → dropped t list ≡ length (filter (λ p. eqb p.0.kind 2 && eqb p.1 NONE) (zip t.slots list))
unfolding dropped
dropped_all t list l n e =
    let q : Slot × ℕ → Bool = λ p. is_clean p.0 && eqb p.1 NONE in
    ap (λ c. count (λ s. is_clean (slot_at t s) && eqb (get_or list s NONE) NONE) (down c)) (sym e)
    ∙ sym (beside q (λ s. is_clean (slot_at t s) && eqb (get_or list s NONE) NONE) t.slots list (omega arith) (λ i h. refl)) ∙ counted q (zip t.slots list)
    ∙ sym (length-filter q (zip t.slots list))

-- ---- the cost by a resize with a list of zeros, as long as the capacity of a table that is not refused
module _ (t : State) (asked : ℕ) (pins : List ℕ) where
  abbrev zeros : List ℕ
  zeros = take (min t.capacity 256) (replicate 256 0)

  -- the cost by a list
  abbrev by : List ℕ → Costs
  by list = by_answer t (resize t asked pins list).list (restores_of t asked pins) (resize t asked pins list).answer

  by_zeros : by zeros ≡ by (replicate t.capacity 0)
  unfolding resize
  by_zeros =
      elim (is (sound t)) [
        | no! e ↦ rw e
        | yes! e ↦
            let small = (sound_sizes_lem e).small in
            ap by (ap (λ c. take c (replicate 256 0)) (omega (arith, small)) ∙ take-replicate t.capacity 256 0 small)
      ]

  pub cost_told : {r : Resizing} → r ≡ resize t asked pins zeros → by_answer t r.list (restores_of t asked pins) r.answer ≡ cost t asked pins
  unfolding cost
  cost_told e = ap (λ (r : Resizing). by_answer t r.list (restores_of t asked pins) r.answer) e ∙ by_zeros
