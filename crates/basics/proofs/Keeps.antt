-- SPDX-License-Identifier: Apache-2.0
-- `keep` and `first` of a list, and how many of a list, or of the slots below a number, pass a test. Assumes nothing.
use Prim.Native.Nat.{ℕ, zero, suc, ◌+◌, ◌<◌, ◌≤◌}
use native.Mathlib.Omega.{arith}
use mathlib.Core.Path.{◌≡◌, refl, ap}
use mathlib.Core.Bool.{Bool, true, false}
use mathlib.Core.List.{List, [], ◌∷◌}
use mathlib.Core.Option.{none, some}
use lib.Dec.{eqb}
use lib.ListN.{length}
use borrow.Author.Tests.{eqb-true, eqb-false}
use Rattle.basics.specs.Lists.{down, keep, first}
use Rattle.basics.specs.Members.{In, here, there, Once}
use Rattle.basics.specs.Counts.{bit, count}
use Rattle.basics.proofs.Tests.{yes!, no!, is}
use Rattle.basics.proofs.Members.{in_none, in_case, not_in, not_in_list, inject, in_down, down_in, once_down}
use Rattle.basics.proofs.Maps.{put, put_here, put_other}

-- ── what is kept ──
pub keep_true : {A : Type 0} (p : A → Bool) (a : A) (l : List A) → p a ≡ true → keep p (a ∷ l) ≡ a ∷ keep p l
unfolding keep
keep_true p a l e = rw e

pub keep_false : {A : Type 0} (p : A → Bool) (a : A) (l : List A) → p a ≡ false → keep p (a ∷ l) ≡ keep p l
unfolding keep
keep_false p a l e = rw e

pub in_keep : {A : Type 0} (p : A → Bool) {a : A} {l : List A} → In a l → p a ≡ true → In a (keep p l)
in_keep p {a} (here {l = l}) e = rw (keep_true p a l e) here
in_keep p (there {b = b} {l = l} m) e =
    elim (is (p b)) [ yes! q ↦ rw (keep_true p b l q) (there (in_keep p m e)) | no! q ↦ rw (keep_false p b l q) (in_keep p m e) ]

pub keep_in : {A : Type 0} (p : A → Bool) (l : List A) (y : A) → In y (keep p l) → In y l × (p y ≡ true)
unfolding keep
keep_in p [] y m = in_none m
keep_in p (a ∷ l) y m =
    elim (is (p a)) [
      | yes! e ↦ let k : In y (a ∷ keep p l) = rw e at m in in_case k (λ q. rw q (here, e)) (λ n. (there (keep_in p l y n).0, (keep_in p l y n).1))
      | no! e ↦ let k : In y (keep p l) = rw e at m in (there (keep_in p l y k).0, (keep_in p l y k).1)
    ]

pub once_keep : (p : ℕ → Bool) (l : List ℕ) → Once l → Once (keep p l)
unfolding keep
once_keep p [] o = tt
once_keep p (a ∷ l) o =
    elim (is (p a)) [
      | yes! e ↦ rw e (not_in_list a (keep p l) (λ m. not_in o.0 (keep_in p l a m).0 refl), once_keep p l o.1)
      | no! e ↦ rw e (once_keep p l o.1)
    ]

pub keep_length : {A : Type 0} (p : A → Bool) (l : List A) → length (keep p l) ≡ count p l
unfolding keep
keep_length p [] = refl
keep_length p (a ∷ l) = elim (is (p a)) [ yes! e ↦ rw e (omega (arith, keep_length p l)) | no! e ↦ rw e (omega (arith, keep_length p l)) ]

-- ── the first that passes ──
pub data Search {A : Type 0} (p : A → Bool) (l : List A) : Type 0 where
  hits : (a : A) → In a l → p a ≡ true → first p l ≡ some a → Search p l
  fails : first p l ≡ none → ((y : A) → In y l → p y ≡ false) → Search p l

pub look : {A : Type 0} (p : A → Bool) (l : List A) → Search p l
unfolding first
look p [] = fails refl (λ y m. in_none m)
look p (a ∷ l) =
    elim (is (p a)) [
      | yes! e ↦ hits a here e (rw e)
      | no! e ↦ elim (look p l) [
        | hits b m q f ↦ hits b (there m) q (rw e f)
        | fails f h ↦ fails (rw e f) (λ y m. in_case m (λ q. rw q e) (λ n. h y n))
      ]
    ]

-- ── how many ──
pub count_agree : {A : Type 0} (p q : A → Bool) (l : List A) → ((x : A) → In x l → p x ≡ q x) → count p l ≡ count q l
count_agree p q [] h = refl
count_agree p q (a ∷ l) h = rw (h a here, count_agree p q l (λ x m. h x (there m)))

-- a test with another value at x differs by that one
pub count_put : (p : ℕ → Bool) (b : Bool) (x c : ℕ) → x < c → count (put x b p) (down c) + bit (p x) ≡ count p (down c) + bit b
unfolding down
count_put p b x zero h = absurd (omega arith)
count_put p b x (suc c) h =
    elim (is (eqb x c)) [
      | yes! e ↦
          let q : x ≡ c = eqb-true x c e in
          let rest : count (put x b p) (down c) ≡ count p (down c) = count_agree (put x b p) p (down c) (λ y m. put_other x b p y (let lt = down_in c y m in λ z. omega arith)) in
          let here : bit (put x b p c) ≡ bit b = rw (← q) (ap bit (put_here x b p)) in
          let same : bit (p x) ≡ bit (p c) = ap (λ (z : ℕ). bit (p z)) q in
          omega arith
      | no! e ↦
          let n : x ≡ c → ⊥ = eqb-false x c e in
          let same : bit (put x b p c) ≡ bit (p c) = rw (put_other x b p c (λ z. omega arith)) in
          omega (arith, count_put p b x c (omega arith))
    ]

-- each of a list passes just one of three tests
pub count_three : {A : Type 0} (p q r : A → Bool) (l : List A) → ((x : A) → bit (p x) + bit (q x) + bit (r x) ≡ 1) → count p l + count q l + count r l ≡ length l
count_three p q r [] h = refl
count_three p q r (a ∷ l) h = omega (arith, h a, count_three p q r l h)

-- a list that has each number below c of which the test holds, once, is as long as there are such
pub count_list : (p : ℕ → Bool) (c : ℕ) (ys : List ℕ) → Once ys → ((x : ℕ) → In x ys → (x < c) × (p x ≡ true)) → ((x : ℕ) → x < c → p x ≡ true → In x ys) → count p (down c) ≡ length ys
count_list p c ys o inside whole =
    let xs : List ℕ = keep p (down c) in
    let less : length xs ≤ length ys = inject xs ys (once_keep p (down c) (once_down c)) (λ x m. let k = keep_in p (down c) x m in whole x (down_in c x k.0) k.1) in
    let more : length ys ≤ length xs = inject ys xs o (λ x m. let k = inside x m in in_keep p (in_down c x k.0) k.1) in
    omega (arith, keep_length p (down c))
