-- SPDX-License-Identifier: Apache-2.0
-- The cost told is that of resize with any list of the right length, on every table. Assumes nothing.
use Prim.Native.Nat.{ℕ}
use mathlib.Core.Path.{◌≡◌, refl, ap, ◌∙◌}
use mathlib.Core.Bool.{true, ◌&&◌}
use mathlib.Core.List.{List}
use mathlib.Core.Option.{Option, none, some}
use lib.Dec.{ltb, eqb}
use lib.ListN.{length, length-replicate, replicate}
use borrow.Author.Tests.{eq-eqb}
use Rattle.basics.specs.Try.{Try, ok, refuse, ◌>>=◌, ◌>>◌, need}
use Rattle.basics.specs.Refusals.{PINS, LIST}
use Rattle.basics.specs.Answers.{Fine, done}
use Rattle.basics.specs.Capacity.{need_capacity}
use Rattle.basics.proofs.Tests.{yes!, no!, is}
use Rattle.state.specs.declared.State.{State}
use Rattle.state.specs.Fresh.{sound}
use Rattle.maintenance_resize.specs.Answers.{Size, unchanged, busy_now, resized, Resizing}
use Rattle.maintenance_restore.specs.Pins.{pins_clean, raised}
use Rattle.maintenance_restore.specs.Restore.{candidate}
use Rattle.maintenance_resize.specs.Move.{remake}
use Rattle.maintenance_resize.specs.Resize.{unless_refused, remake_or_busy, resize_to, resize_steps, resize}
use Rattle.maintenance_resize.specs.Cost.{Costs, by_answer, restores_of, cost}
use Rattle.laws_cost.specs.Laws.{Foretells, SameAnswer}

-- the cost that a resize comes to, with so many restores, when it is lent this list
abbrev told_by : State → ℕ → List ℕ → Try Resizing → Costs
told_by t n list x = let r = unless_refused t list x in by_answer t r.list n r.answer

module _ (t : State) (n : ℕ) (l m : List ℕ) where
  -- what does not read the list is told alike with both
  same_told : (x : Try Resizing) → told_by t n l x ≡ told_by t n m x
  same_told (ok r) = refl
  same_told (refuse k) = refl

  busy_told : (x : Try (Option State)) → told_by t n l (x >>= remake_or_busy t l) ≡ told_by t n m (x >>= remake_or_busy t m)
  unfolding remake_or_busy
  busy_told (ok none) = refl
  busy_told (ok (some new)) = same_told (remake t new)
  busy_told (refuse k) = refl

  to_told : (pins : List ℕ) (c : ℕ) → told_by t n l (resize_to t pins l c) ≡ told_by t n m (resize_to t pins m c)
  unfolding resize_to
  to_told pins c =
      elim (is (eqb c t.capacity)) [
        | yes! e ↦ rw e
        | no! e ↦ elim (is (eqb t.clean 0 && ltb c t.capacity)) [
          | yes! q ↦ rw (e, q)
          | no! q ↦ rw (e, q) (busy_told (candidate 9 t pins (ltb c t.capacity) c))
        ]
      ]

  steps_told : (asked : ℕ) (pins : List ℕ) → told_by t n l (resize_steps t asked pins l) ≡ told_by t n m (resize_steps t asked pins m)
  unfolding resize_steps
  steps_told asked pins =
      elim (is (eqb asked t.capacity)) [
        | yes! e ↦ rw e
        | no! e ↦ elim (is (ltb 0 t.loading)) [
          | yes! q ↦ rw (e, q)
          | no! q ↦ elim (is (pins_clean t.capacity t pins 0)) [
            | yes! g ↦ rw (e, q, g) (to_told pins (raised asked pins))
            | no! g ↦ rw (e, q, g)
          ]
        ]
      ]

  -- the steps, behind the tests of the pins and of a list that has the right length
  abbrev input : ℕ → List ℕ → List ℕ → Try Fine → Try Resizing
  input asked pins list x = x >> need (eqb (length pins) t.capacity) PINS >> need true LIST >> resize_steps t asked pins list

  input_told : (asked : ℕ) (pins : List ℕ) (x : Try Fine) → told_by t n l (input asked pins l x) ≡ told_by t n m (input asked pins m x)
  input_told asked pins (refuse k) = refl
  input_told asked pins (ok done) = elim (is (eqb (length pins) t.capacity)) [ yes! e ↦ rw e (steps_told asked pins) | no! e ↦ rw e ]

  resize_told : (asked : ℕ) (pins : List ℕ) → length l ≡ t.capacity → length m ≡ t.capacity
      → by_answer t (resize t asked pins l).list n (resize t asked pins l).answer ≡ by_answer t (resize t asked pins m).list n (resize t asked pins m).answer
  unfolding resize
  resize_told asked pins el em =
      elim (is (sound t)) [
        | no! e ↦ rw e
        | yes! e ↦ rw (e, eq-eqb (length l) t.capacity el, eq-eqb (length m) t.capacity em) (input_told asked pins (need_capacity asked))
      ]

pub foretells : Foretells
unfolding cost
foretells t asked pins list e =
    resize_told t (restores_of t asked pins) (replicate t.capacity 0) list asked pins (length-replicate t.capacity 0) e

-- the answer stands in a cost as it is
pub cost_answer : (t : State) (list : List ℕ) (n : ℕ) (a : Try Size) → (by_answer t list n a).answer ≡ a
cost_answer t list n (ok unchanged) = refl
cost_answer t list n (ok busy_now) = refl
cost_answer t list n (ok (resized c)) = refl
cost_answer t list n (refuse m) = refl

pub same_answer : SameAnswer
same_answer t asked pins list e =
    let r = resize t asked pins list in
    ap (λ (k : Costs). k.answer) (foretells t asked pins list e) ∙ cost_answer t r.list (restores_of t asked pins) r.answer
