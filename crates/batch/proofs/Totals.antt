-- SPDX-License-Identifier: Apache-2.0
-- Numbers added up: none, one more, and one that is refused; a walk is refused by 10 alone. Assumes nothing.
use Prim.Native.Nat.{ℕ, zero, suc, ◌+◌, ◌<◌}
use native.Mathlib.Omega.{arith}
use mathlib.Core.Path.{◌≡◌, refl, sym, ap, ◌∙◌}
use mathlib.Core.List.{List}
use lib.Dec.{leb, eqb}
use lib.ListN.{length, get_or}
use borrow.Author.Tests.{eqb-true, eqb-false}
use Rattle.basics.specs.Try.{Try, ok, refuse, ◌>>=◌}
use Rattle.basics.specs.Refusals.{STOP}
use Rattle.basics.specs.Numbers.{NONE}
use Rattle.basics.proofs.Tests.{yes!, no!, is, refuse_ok, went, ok_same}
use Rattle.key.specs.declared.CacheKey.{CacheKey}
use Rattle.index.specs.Chain.{CHAIN, next_of, walked}
use Rattle.state.specs.declared.State.{State}
use Rattle.state.specs.Slots.{slot_at}
use Rattle.batch.specs.Batch.{unfound, visit_from, asked_of, visit_chain, total}

pub total_none : (n : ℕ) → total (λ b. ok 0) n ≡ ok 0
unfolding total
total_none zero = refl
total_none (suc n) = rw (total_none n)

pub total_same : (f g : ℕ → Try ℕ) (n : ℕ) → ((b : ℕ) → b < n → f b ≡ g b) → total f n ≡ total g n
unfolding total
total_same f g zero h = refl
total_same f g (suc n) h = rw (total_same f g n (λ b l. h b (omega arith)), h n (omega arith))

-- a number in the place of a 0
pub total_more : (f g : ℕ → Try ℕ) (n b m v : ℕ) → b < n → f b ≡ ok 0 → g b ≡ ok m → ((j : ℕ) → (j ≡ b → ⊥) → f j ≡ g j) → total f n ≡ ok v
    → total g n ≡ ok (v + m)
unfolding total
total_more f g zero b m v l e h same t = absurd (omega arith)
total_more f g (suc n) b m v l e h same t =
    let w = went (total f n) (λ x. f n >>= (λ y. ok (x + y))) v t in
    let u = went (f n) (λ y. ok (w.0 + y)) v w.2 in
    let z : w.0 + u.0 ≡ v = ok_same u.2 in
    elim (is (eqb n b)) [
      | yes! q ↦
          let q : n ≡ b = eqb-true n b q in
          let none : u.0 ≡ 0 = ok_same (sym u.1 ∙ rw q e) in
          let rest : total g n ≡ ok w.0 = sym (total_same f g n (λ j k. same j (λ r. absurd (omega arith)))) ∙ w.1 in
          let here : g n ≡ ok m = rw q h in
          rw (rest, here) (ap (λ (x : ℕ). ok x) (omega arith))
      | no! q ↦
          let ne = eqb-false n b q in
          let here : g n ≡ ok u.0 = sym (same n ne) ∙ u.1 in
          rw (total_more f g n b m w.0 (omega arith) e h same w.1, here) (ap (λ (x : ℕ). ok x) (omega arith))
    ]

-- a value, or the number of a refusal
pub data Ran (r : Try ℕ) : Type 0 where
  gave : (n : ℕ) → r ≡ ok n → Ran r
  stopped : (n : ℕ) → r ≡ refuse n → Ran r

pub ran : (r : Try ℕ) → Ran r
ran (ok n) = gave n refl
ran (refuse n) = stopped n refl

refuse_same : {n m : ℕ} → ◌≡◌ {A = Try ℕ} (refuse n) (refuse m) → n ≡ m
refuse_same e = cc

-- refused by 10 where it is refused
abbrev pub Only10 : Try ℕ → Type 0
Only10 r = (n : ℕ) → r ≡ refuse n → n ≡ STOP

total_only : (f : ℕ → Try ℕ) → ((b : ℕ) → Only10 (f b)) → (n : ℕ) → Only10 (total f n)
unfolding total
total_only f h zero m e = absurd (refuse_ok (sym e))
total_only f h (suc n) m e =
    elim (ran (total f n)) [
      | stopped a q ↦ let z : a ≡ m = refuse_same (rw q at e) in omega (arith, total_only f h n a q)
      | gave a q ↦ elim (ran (f n)) [
        | stopped b r ↦ let z : b ≡ m = refuse_same (rw (q, r) at e) in omega (arith, h n b r)
        | gave b r ↦ absurd (refuse_ok (sym (rw (q, r) at e)))
      ]
    ]

pub total_stops : (f : ℕ → Try ℕ) → ((b : ℕ) → Only10 (f b)) → (n b : ℕ) → b < n → f b ≡ refuse STOP → total f n ≡ refuse STOP
unfolding total
total_stops f h zero b l e = absurd (omega arith)
total_stops f h (suc n) b l e =
    elim (ran (total f n)) [
      | stopped a q ↦ let z : a ≡ STOP = total_only f h n a q in rw (q, z)
      | gave a q ↦ elim (is (eqb b n)) [
        | yes! r ↦ let r : b ≡ n = eqb-true b n r in let here : f n ≡ refuse STOP = rw r at e in rw (q, here)
        | no! r ↦ let ne = eqb-false b n r in absurd (refuse_ok (sym (total_stops f h n b (omega arith) e) ∙ q))
      ]
    ]

pub visit_only : (left : ℕ) (t : State) (kept : ℕ) (keys : List CacheKey) (slot : ℕ) → Only10 (visit_from left t kept keys slot)
unfolding visit_from
visit_only zero t kept keys slot m e =
    elim (is (eqb (length keys) 0)) [
      | yes! k ↦ absurd (refuse_ok (sym (rw k at e)))
      | no! k ↦ elim (is (eqb slot NONE)) [
        | no! q ↦ sym (refuse_same (rw (k, q) at e))
        | yes! q ↦ elim (is (walked kept 0)) [ yes! w ↦ absurd (refuse_ok (sym (rw (k, q, w) at e))) | no! w ↦ sym (refuse_same (rw (k, q, w) at e)) ]
      ]
    ]
visit_only (suc left) t kept keys slot m e =
    elim (is (eqb (length keys) 0)) [
      | yes! k ↦ absurd (refuse_ok (sym (rw k at e)))
      | no! k ↦ elim (is (eqb slot NONE)) [
        | yes! q ↦
            elim (is (walked kept (suc left))) [ yes! w ↦ absurd (refuse_ok (sym (rw (k, q, w) at e))) | no! w ↦ sym (refuse_same (rw (k, q, w) at e)) ]
        | no! q ↦ elim (is (leb t.capacity slot)) [
          | yes! l ↦ sym (refuse_same (rw (k, q, l) at e))
          | no! l ↦
              let rest : Try ℕ = visit_from left t kept (unfound (slot_at t slot) keys) (next_of t.index slot) in
              elim (ran rest) [
                | gave n r ↦ absurd (refuse_ok (sym (rw (k, q, l, r) at e)))
                | stopped n r ↦
                    let z : n ≡ m = refuse_same (rw (k, q, l, r) at e) in
                    omega (arith, visit_only left t kept (unfound (slot_at t slot) keys) (next_of t.index slot) n r)
              ]
        ]
      ]
    ]

pub chain_only : (t : State) (keys : List CacheKey) (b : ℕ) → Only10 (visit_chain t keys b)
unfolding visit_chain
chain_only t keys b = visit_only CHAIN t (get_or t.index.lengths b 0) (asked_of t b keys) (get_or t.index.heads b 0)
