-- SPDX-License-Identifier: Apache-2.0
-- What is kept of a list, whether one or all of it pass a test, and whether two keys are the same. Assumes nothing.
use mathlib.Core.Path.{◌≡◌, refl, sym, ap, ◌∙◌}
use mathlib.Core.Bool.{Bool, true, false, false≢true}
use mathlib.Core.List.{List, [], ◌∷◌}
use mathlib.Core.Option.{some}
use lib.Dec.{T}
use Rattle.basics.specs.Lists.{keep, every, some?, first}
use Rattle.basics.specs.Members.{In, here, there}
use Rattle.basics.proofs.Tests.{yes!, no!, is, some_same, none_some}
use Rattle.basics.proofs.Members.{in_none, in_case}
use Rattle.basics.proofs.Keeps.{hits, fails, look}
use Rattle.key.specs.declared.CacheKey.{CacheKey}
use Rattle.key.specs.Key.{same_key}
use Rattle.key.proofs.Keys.{same_key_lem, key_eq}

-- ── tests ──
pub true_T : (b : Bool) → b ≡ true → T b
true_T b e = rw e tt

pub T_true : (b : Bool) → T b → b ≡ true
T_true true z = refl
T_true false z = absurd z

-- ── what is kept ──
pub keep_agree : {A : Type 0} (p q : A → Bool) (l : List A) → ((y : A) → In y l → p y ≡ q y) → keep p l ≡ keep q l
unfolding keep
keep_agree p q [] h = refl
keep_agree p q (a ∷ l) h = rw (h a here, keep_agree p q l (λ y m. h y (there m)))

pub keep_all : {A : Type 0} (p : A → Bool) (l : List A) → ((y : A) → In y l → p y ≡ true) → keep p l ≡ l
unfolding keep
keep_all p [] h = refl
keep_all p (a ∷ l) h = rw (h a here, keep_all p l (λ y m. h y (there m)))

-- kept twice is kept once, by both tests
pub keep_keep : {A : Type 0} (p q r : A → Bool) → ((a : A) → q a ≡ false → r a ≡ false) → ((a : A) → q a ≡ true → r a ≡ p a) → (l : List A) → keep p (keep q l) ≡ keep r l
unfolding keep
keep_keep p q r f g [] = refl
keep_keep p q r f g (a ∷ l) =
    elim (is (q a)) [
      | yes! e ↦ rw (e, g a e, keep_keep p q r f g l)
      | no! e ↦ rw (e, f a e) (keep_keep p q r f g l)
    ]

-- ── one, or all ──
pub first_in : {A : Type 0} (p : A → Bool) (l : List A) (a : A) → first p l ≡ some a → In a l × (p a ≡ true)
first_in p l a e =
    elim (look p l) [
      | hits b m q f ↦ let w : b ≡ a = some_same (sym f ∙ e) in rw (← w) (m, q)
      | fails f h ↦ absurd (none_some (sym f ∙ e))
    ]

pub data Any {A : Type 0} (p : A → Bool) (l : List A) : Type 0 where
  any : some? p l ≡ true → (a : A) → In a l → p a ≡ true → Any p l
  nil : some? p l ≡ false → ((a : A) → In a l → p a ≡ false) → Any p l

pub any_is : {A : Type 0} (p : A → Bool) (l : List A) → Any p l
unfolding some?
any_is p [] = nil refl (λ a i. in_none i)
any_is p (a ∷ l) =
    elim (is (p a)) [
      | yes! e ↦ any (rw e) a here e
      | no! e ↦ elim (any_is p l) [
        | any q b i f ↦ any (rw (e, q)) b (there i) f
        | nil q n ↦ nil (rw (e, q)) (λ b i. in_case i (λ z. rw z e) (λ j. n b j))
      ]
    ]

pub some_in : {A : Type 0} (p : A → Bool) (l : List A) (a : A) → In a l → p a ≡ true → some? p l ≡ true
some_in p l a i e = elim (any_is p l) [ any q b j f ↦ q | nil q n ↦ absurd (false≢true (sym (n a i) ∙ e)) ]

pub every_in : {A : Type 0} (p : A → Bool) (l : List A) → ((a : A) → In a l → p a ≡ true) → every p l ≡ true
unfolding every
every_in p [] f = refl
every_in p (a ∷ l) f = rw (f a here, every_in p l (λ b i. f b (there i)))

-- ── two keys ──
pub data Compared (a b : CacheKey) : Type 0 where
  alike : same_key a b ≡ true → a ≡ b → Compared a b
  unlike : same_key a b ≡ false → (a ≡ b → ⊥) → Compared a b

pub compared : (a b : CacheKey) → Compared a b
compared a b = elim (is (same_key a b)) [ yes! e ↦ alike e (key_eq a b e) | no! e ↦ unlike e (λ q. false≢true (sym e ∙ ap (same_key a) (sym q) ∙ same_key_lem a)) ]
