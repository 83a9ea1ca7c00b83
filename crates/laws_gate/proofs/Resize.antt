-- SPDX-License-Identifier: Apache-2.0
-- The laws of resize through the gate, by its tests in their order. Assumes nothing.
use Prim.Native.Nat.{ℕ, ◌+◌}
use native.Mathlib.Omega.{arith}
use mathlib.Core.Path.{◌≡◌, refl, sym, ap, ◌∙◌}
use mathlib.Core.Logic.{◌⊎◌, inl, inr}
use mathlib.Core.Bool.{Bool, true, false, false≢true}
use mathlib.Core.List.{List}
use lib.Dec.{ltb, eqb}
use lib.ListN.{length}
use borrow.Author.Tests.{ne_eqb}
use Rattle.basics.specs.Try.{Try, ok, refuse, ◌>>◌, need}
use Rattle.basics.specs.Answers.{Fine, done}
use Rattle.basics.specs.Refusals.{STOP, PINS, LIST, EXHAUSTED}
use Rattle.basics.specs.Numbers.{MAX}
use Rattle.basics.specs.Capacity.{need_capacity}
use Rattle.basics.proofs.Tests.{yes!, no!, is}
use Rattle.state.specs.declared.State.{State}
use Rattle.state.specs.Fresh.{sound}
use Rattle.maintenance_resize.specs.Answers.{Size, unchanged, busy_now, resized, Resizing}
use Rattle.maintenance_resize.specs.Resize.{unless_refused, resize_steps, resize}
use Rattle.gate.specs.declared.Gate.{Gate}
use Rattle.gate.specs.Gate.{stops, marked}
use Rattle.passage.specs.Resize.{need_input_of, need_input, attempted, attempt_rule, pass_steps, stays, resize_through}
use Rattle.laws_gate.specs.Laws.{clears, Same, StopsResize, OpenIsPlain, RefusalLeaves, DoneClears, CountsOne}

-- ── the tests of the input are those of document 01's resize ──
join : (s p q : Bool) (x : Try Fine) (r : Try Resizing)
    → (need s STOP >> x >> need p PINS >> need q LIST >> r) ≡ ((need s STOP >> x >> need p PINS >> need q LIST >> ok done) >> r)
join false p q x r = refl
join true p q (refuse n) r = refl
join true false q (ok done) r = refl
join true true false (ok done) r = refl
join true true true (ok done) r = refl

module _ (t : State) (asked : ℕ) (pins list : List ℕ) where
  front : resize t asked pins list ≡ unless_refused t list (need_input t asked (length pins) (length list) >> resize_steps t asked pins list)
  unfolding resize need_input_of
  front =
      ap (unless_refused t list)
      (join (sound t) (eqb (length pins) t.capacity) (eqb (length list) t.capacity) (need_capacity asked) (resize_steps t asked pins list))

-- a test's result
data Tested (r : Try Fine) : Type 0 where
  passes! : r ≡ ok done → Tested r
  refused! : (n : ℕ) → r ≡ refuse n → Tested r

tested : (r : Try Fine) → Tested r
tested (ok done) = passes! refl
tested (refuse n) = refused! n refl

-- ── the gate by the answer of an attempt ──
attempt_clears : (g : Gate) (a : Try Size) → clears a ≡ true → (attempted g a).pending ≡ false
unfolding attempted clears
attempt_clears g (ok unchanged) c = refl
attempt_clears g (ok busy_now) c = absurd (false≢true c)
attempt_clears g (ok (resized n)) c = refl
attempt_clears g (refuse n) c = absurd (false≢true c)

attempt_same : (g : Gate) (a : Try Size) → Same g (attempted g a)
unfolding attempted
attempt_same g (ok unchanged) = record { pauses = refl; dirty = refl; generation = inr refl }
attempt_same g (ok busy_now) = record { pauses = refl; dirty = refl; generation = inr refl }
attempt_same g (ok (resized n)) = record { pauses = refl; dirty = refl; generation = inr refl }
attempt_same g (refuse n) = record { pauses = refl; dirty = refl; generation = inl refl }

attempt_leaves : (g : Gate) (a : Try Size) (n : ℕ) → a ≡ refuse n → attempted g a ≡ g
unfolding attempted
attempt_leaves g a n q = rw q

-- whether an answer is a refusal, and by which number
abbrev refusal : Try Size → ℕ
refusal (ok s) = 0
refusal (refuse n) = n + 1

not_refused : {s : Size} {n : ℕ} → ◌≡◌ {A = Try Size} (ok s) (refuse n) → ⊥
not_refused {s} {n} q = let z : ◌≡◌ {A = ℕ} 0 (n + 1) = ap refusal q in omega (arith, z)

by_seven : {n : ℕ} → ◌≡◌ {A = Try Size} (refuse EXHAUSTED) (refuse n) → n ≡ EXHAUSTED
by_seven {n} q = let z : EXHAUSTED + 1 ≡ n + 1 = ap refusal q in omega (arith, z)

as_is : (g : Gate) (b : Bool) → Same g (marked b g)
as_is g b = record { pauses = refl; dirty = refl; generation = inl refl }

module _ (t : State) (g : Gate) (asked : ℕ) (pins list : List ℕ) where
  abbrev tests : Try Fine
  tests = need_input t asked (length pins) (length list)

  -- ── with the gate open ──
  open_steps : stops g ≡ false → (g.generation ≡ MAX → ⊥) → tests ≡ ok done
      → (pass_steps t g asked pins list).resizing ≡ unless_refused t list (resize_steps t asked pins list)
  unfolding pass_steps attempt_rule resize_steps
  open_steps s n y =
      elim (is (eqb asked t.capacity)) [
        | yes! e ↦ rw (s, e)
        | no! e ↦ elim (is (ltb 0 t.loading)) [
          | yes! h ↦ rw (s, e, h)
          | no! h ↦ rw (s, e, h, ne_eqb g.generation MAX n) (front t asked pins list ∙ rw (y, e, h))
        ]
      ]

  open_plain : stops g ≡ false → (g.generation ≡ MAX → ⊥) → (resize_through t g asked pins list).resizing ≡ resize t asked pins list
  unfolding resize_through
  open_plain s n =
      elim (tested tests) [
        | refused! m e ↦ rw e (sym (front t asked pins list ∙ rw e))
        | passes! e ↦ rw e (open_steps s n e ∙ sym (front t asked pins list ∙ rw e))
      ]

  -- ── with a pause or a dirty page ──
  stopped : stops g ≡ true
      → (resize_through t g asked pins list ≡ stays t list (ok busy_now) g) ⊎ ((n : ℕ) × (resize_through t g asked pins list ≡ stays t list (refuse n) g))
  unfolding resize_through pass_steps
  stopped s =
      elim (tested tests) [
        | refused! m e ↦ inr (m, rw e)
        | passes! e ↦ inl (rw (e, s))
      ]

  -- ── the gate afterwards ──
  steps_leave : (n : ℕ) → (pass_steps t g asked pins list).resizing.answer ≡ refuse n → (n ≡ EXHAUSTED → ⊥) → (pass_steps t g asked pins list).gate ≡ g
  unfolding pass_steps attempt_rule
  steps_leave n =
      elim (is (stops g)) [
        | yes! s ↦ rw s (λ q z. refl)
        | no! s ↦ elim (is (eqb asked t.capacity)) [
          | yes! e ↦ rw (s, e) (λ q z. absurd (not_refused q))
          | no! e ↦ elim (is (ltb 0 t.loading)) [
            | yes! h ↦ rw (s, e, h) (λ q z. absurd (not_refused q))
            | no! h ↦ elim (is (eqb g.generation MAX)) [
              | yes! i ↦ rw (s, e, h, i) (λ q z. absurd (z (by_seven q)))
              | no! i ↦ rw (s, e, h, i) (λ q z. attempt_leaves g (resize t asked pins list).answer n q)
            ]
          ]
        ]
      ]

  leaves : (n : ℕ) → (resize_through t g asked pins list).resizing.answer ≡ refuse n → (n ≡ EXHAUSTED → ⊥) → (resize_through t g asked pins list).gate ≡ g
  unfolding resize_through
  leaves n =
      elim (tested tests) [
        | refused! m e ↦ rw e (λ q z. refl)
        | passes! e ↦ rw e (steps_leave n)
      ]

  steps_clear : clears (pass_steps t g asked pins list).resizing.answer ≡ true → (pass_steps t g asked pins list).gate.pending ≡ false
  unfolding pass_steps attempt_rule clears
  steps_clear =
      elim (is (stops g)) [
        | yes! s ↦ rw s (λ c. absurd (false≢true c))
        | no! s ↦ elim (is (eqb asked t.capacity)) [
          | yes! e ↦ rw (s, e) (λ c. refl)
          | no! e ↦ elim (is (ltb 0 t.loading)) [
            | yes! h ↦ rw (s, e, h) (λ c. absurd (false≢true c))
            | no! h ↦ elim (is (eqb g.generation MAX)) [
              | yes! i ↦ rw (s, e, h, i) (λ c. refl)
              | no! i ↦ rw (s, e, h, i) (attempt_clears g (resize t asked pins list).answer)
            ]
          ]
        ]
      ]

  done_clears : clears (resize_through t g asked pins list).resizing.answer ≡ true → (resize_through t g asked pins list).gate.pending ≡ false
  unfolding resize_through clears
  done_clears =
      elim (tested tests) [
        | refused! m e ↦ rw e (λ c. absurd (false≢true c))
        | passes! e ↦ rw e steps_clear
      ]

  steps_count : Same g (pass_steps t g asked pins list).gate
  unfolding pass_steps attempt_rule
  steps_count =
      elim (is (stops g)) [
        | yes! s ↦ rw s (as_is g g.pending)
        | no! s ↦ elim (is (eqb asked t.capacity)) [
          | yes! e ↦ rw (s, e) (as_is g false)
          | no! e ↦ elim (is (ltb 0 t.loading)) [
            | yes! h ↦ rw (s, e, h) (as_is g true)
            | no! h ↦ elim (is (eqb g.generation MAX)) [
              | yes! i ↦ rw (s, e, h, i) (as_is g false)
              | no! i ↦ rw (s, e, h, i) (attempt_same g (resize t asked pins list).answer)
            ]
          ]
        ]
      ]

  counts : Same g (resize_through t g asked pins list).gate
  unfolding resize_through
  counts =
      elim (tested tests) [
        | refused! m e ↦ rw e (as_is g g.pending)
        | passes! e ↦ rw e steps_count
      ]

pub stops_resize : StopsResize
stops_resize t g asked pins list s = stopped t g asked pins list s

pub open_is_plain : OpenIsPlain
open_is_plain t g asked pins list s n = open_plain t g asked pins list s n

pub refusal_leaves : RefusalLeaves
refusal_leaves t g asked pins list n q z = leaves t g asked pins list n q z

pub resize_clears : DoneClears
resize_clears t g asked pins list c = done_clears t g asked pins list c

pub counts_one : CountsOne
counts_one t g asked pins list = counts t g asked pins list
