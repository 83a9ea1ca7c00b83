-- SPDX-License-Identifier: Apache-2.0
-- What a resize through the gate hands back of the table and the list: both as they came, or what resize hands back. Assumes nothing.
use Prim.Native.Nat.{ℕ}
use native.Mathlib.Omega.{arith}
use mathlib.Core.Path.{◌≡◌, refl}
use mathlib.Core.Bool.{false}
use mathlib.Core.List.{List}
use lib.Dec.{ltb, eqb}
use lib.ListN.{length}
use Rattle.basics.specs.Try.{Try, ok, refuse}
use Rattle.basics.specs.Refusals.{STOP, EXHAUSTED}
use Rattle.basics.specs.Numbers.{MAX}
use Rattle.basics.proofs.Tests.{yes!, no!, is}
use Rattle.state.specs.declared.State.{State}
use Rattle.state.specs.Fresh.{sound}
use Rattle.maintenance_resize.specs.Answers.{Size, unchanged, busy_now, resized, Resizing}
use Rattle.maintenance_resize.specs.Resize.{resize}
use Rattle.laws_maintenance.proofs.CallsKeep.{runs}
use Rattle.gate.specs.declared.Gate.{Gate}
use Rattle.gate.specs.Gate as gates
use Rattle.passage.specs.Resize.{attempt_rule, pass_steps, resize_through}
use Rattle.gate_ledger.proofs.Told.{out!, in!, input_law}

-- an answer that makes no table
abbrev pub Keeps : Try Size → Type 0
Keeps (ok unchanged) = Unit {0}
Keeps (ok busy_now) = Unit {0}
Keeps (ok (resized c)) = ⊥
Keeps (refuse n) = Unit {0}

pub data Through (t : State) (asked : ℕ) (pins list : List ℕ) (r : Resizing) : Type 0 where
  -- 10 comes only of the first test
  stays! : (a : Try Size) → r ≡ record { table = t; answer = a; list = list } → Keeps a → (a ≡ refuse STOP → sound t ≡ false) → Through t asked pins list r
  resizes! : r ≡ resize t asked pins list → Through t asked pins list r

module _ (t : State) (g : Gate) (asked : ℕ) (pins list : List ℕ) where
  steps : Through t asked pins list (pass_steps t g asked pins list).resizing
  unfolding pass_steps attempt_rule
  steps =
      elim (is (gates.stops g)) [
        | yes! e ↦ rw e (stays! (ok busy_now) refl tt (λ q. absurd (runs refl (omega arith) q)))
        | no! e ↦ elim (is (eqb asked t.capacity)) [
          | yes! f ↦ rw (e, f) (stays! (ok unchanged) refl tt (λ q. absurd (runs refl (omega arith) q)))
          | no! f ↦ elim (is (ltb 0 t.loading)) [
            | yes! h ↦ rw (e, f, h) (stays! (ok busy_now) refl tt (λ q. absurd (runs refl (omega arith) q)))
            | no! h ↦ elim (is (eqb g.generation MAX)) [
              | yes! i ↦ rw (e, f, h, i) (stays! (refuse EXHAUSTED) refl tt (λ q. absurd (runs refl (omega arith) q)))
              | no! i ↦ rw (e, f, h, i) (resizes! refl)
            ]
          ]
        ]
      ]

  pub through_law : Through t asked pins list (resize_through t g asked pins list).resizing
  unfolding resize_through
  through_law =
      elim (input_law t asked (length pins) (length list)) [
        | out! n e q z ↦ rw e (stays! (refuse n) refl tt (λ s. z (stop_same s)))
        | in! e ↦ rw e steps
      ]
    where
      stop_same : {n m : ℕ} → ◌≡◌ {A = Try Size} (refuse n) (refuse m) → n ≡ m
      stop_same e = cc
