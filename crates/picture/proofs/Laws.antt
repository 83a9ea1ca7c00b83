-- SPDX-License-Identifier: Apache-2.0
-- The steps of the rules over a list of places. Assumes nothing.
use Rattle.std.proofs.Common.{if◌then◌else◌}
use Prim.Native.Nat.{ℕ, zero, suc, ◌+◌, ◌≤◌, ◌<◌, min}
use native.Mathlib.Omega.{arith}
use native.Mathlib.Nat.{add-zero}
use mathlib.Core.Path.{◌≡◌, refl, sym, ◌∙◌, ap}
use mathlib.Core.Bool.{Bool, true, false, not}
use mathlib.Core.List.{List, [], ◌∷◌, ◌++◌, append_assoc, append-nil}
use lib.ListN.{length, take, drop, get_or, drop_of_length-le}
use lib.Seq.{take_all}
use Rattle.std.specs.List.{count_by}
use Rattle.std.proofs.lemmas.List.Recursion.{is_count_by}
use borrow.Author.Tests.{leb-true, leb-false}
use lib.Dec.{leb}
use Rattle.basics.proofs.Tests.{is, yes!, no! }
use Rattle.picture_numbers.specs.declared.Page.{Page}
use Rattle.picture_numbers.specs.Wrote.{Wrote}
use Rattle.picture_numbers.specs.Numbers.{spaced, word_numbers, all_zero, placed, told, held, below, past}
use Rattle.picture_numbers.proofs.Laws.{wrote_as, numbers_joined, no_numbers}

-- a list of words is told as it is
told_words : (place : ℕ) (l : List ℕ) → told word_numbers true place l ≡ l
unfolding told placed
told_words place [] = refl
told_words place (n ∷ l) = ap (λ x. n ∷ x) (told_words (suc place) l)

pub below_words : (n : ℕ) (l : List ℕ) → below word_numbers n l ≡ take n l
unfolding below
below_words n l = told_words 0 (take n l)

flip : (z : Bool) (h : ℕ) → (if z then 0 else 1) + h ≡ (if not z then 1 + h else h)
flip true h = omega arith
flip false h = refl

-- nothing is told of a place that is 0, and of another its number too
pub placed_none : {p q : Page} (number : ℕ) (ns : List ℕ) → all_zero ns ≡ true → Wrote p [] q → Wrote p (spaced (placed false number ns)) q
unfolding placed
placed_none number ns z w = rw z (no_numbers w)

pub placed_some : {p q r : Page} (number : ℕ) (ns : List ℕ) → all_zero ns ≡ false
    → Wrote p (spaced (number ∷ [])) q → Wrote q (spaced ns) r → Wrote p (spaced (placed false number ns)) r
unfolding placed
placed_some number ns z v w = rw z (numbers_joined (number ∷ []) ns v w)

module _ {A : Type 0} (f : A → List ℕ) where
  -- how many places are not 0, as they are counted
  pub count_held : (l : List A) → count_by (λ x. not (all_zero (f x))) l ≡ held f l
  unfolding held
  count_held l = sym (is_count_by (held f) (λ x. not (all_zero (f x))) refl (λ x xs. flip (all_zero (f x)) (held f xs)) l)

  -- places cut to those that there are
  cut : (n : ℕ) (l : List A) → drop (min n (length l)) l ≡ drop n l
  cut n l =
      elim (is (leb n (length l))) [
        | yes! b ↦ let h = leb-true n (length l) b in let e : min n (length l) ≡ n = omega arith in rw e
        | no! b ↦
            let h = leb-false n (length l) b in
            rw (drop_of_length-le l {i = n} (omega arith), drop_of_length-le l {i = min n (length l)} (omega arith))
      ]

  take_cut : (n : ℕ) (l : List A) → take (min n (length l)) l ≡ take n l
  take_cut n l =
      elim (is (leb n (length l))) [
        | yes! b ↦ let h = leb-true n (length l) b in let e : min n (length l) ≡ n = omega arith in rw e
        | no! b ↦ let h = leb-false n (length l) b in take_all (min n (length l)) l (omega arith) ∙ sym (take_all n l (omega arith))
      ]

  -- one place more
  told_more : (bare : Bool) (from : ℕ) (l : List A) (i : ℕ) (d : A) → i < length l
      → told f bare from (take (i + 1) l) ≡ told f bare from (take i l) ++ placed bare (from + i) (f (get_or l i d))
  unfolding told
  told_more bare from [] i d h = absurd (omega arith)
  told_more bare from (x ∷ l) zero d h = rw (add-zero, append-nil)
  told_more bare from (x ∷ l) (suc i) d h =
      let e : from + suc i ≡ suc from + i = omega arith in
      let k : suc i + 1 ≡ suc (i + 1) = omega arith in
      rw (k, e) (ap (λ r. placed bare from (f x) ++ r) (told_more bare (suc from) l i d (omega arith))
      ∙ sym (append_assoc (placed bare from (f x)) (told f bare (suc from) (take i l)) (placed bare (suc from + i) (f (get_or l i d)))))

  -- the next place, behind those before it and what is before them
  pub place_more : {p q r : Page} (ns : List ℕ) (bare : Bool) (from : ℕ) (xs : List A) (i : ℕ) (x : A) → i < length xs → x ≡ get_or xs i x
      → Wrote p (spaced (ns ++ told f bare from (take i xs))) q → Wrote q (spaced (placed bare (from + i) (f x))) r
      → Wrote p (spaced (ns ++ told f bare from (take (i + 1) xs))) r
  place_more ns bare from xs i x h e v w =
      let so_far = told f bare from (take i xs) in
      let one = placed bare (from + i) (f x) in
      let g : so_far ++ one ≡ told f bare from (take (i + 1) xs) =
      ap (λ y. so_far ++ placed bare (from + i) (f y)) e ∙ sym (told_more bare from xs i x h) in
      wrote_as (ap spaced (append_assoc ns so_far one ∙ ap (λ l. ns ++ l) g)) (numbers_joined (ns ++ so_far) one v w)

  pub below_more : {p q r : Page} (xs : List A) (i : ℕ) (x : A) → i < length xs → x ≡ get_or xs i x
      → Wrote p (spaced (below f i xs)) q → Wrote q (spaced (f x)) r → Wrote p (spaced (below f (i + 1) xs)) r
  unfolding below placed
  below_more xs i x h e v w = place_more [] true 0 xs i x h e v w

  -- the ends
  pub below_start : {p q : Page} (xs : List A) → Wrote p [] q → Wrote p (spaced (below f 0 xs)) q
  unfolding below told
  below_start xs w = no_numbers w

  pub below_end : (xs : List A) (n places i : ℕ) → places ≡ min n (length xs) → length (take places xs) ≤ i → below f i (take places xs) ≡ below f n xs
  unfolding below
  below_end xs n places i e h = ap (told f true 0) (take_all i (take places xs) h ∙ rw e (take_cut n xs))

  pub told_start : {p q : Page} (ns : List ℕ) (from : ℕ) → Wrote p (spaced ns) q → Wrote p (spaced (ns ++ told f false from [])) q
  unfolding told
  told_start ns from w = wrote_as (ap spaced (sym (append-nil ns))) w

  -- the first place does not matter where there is none
  told_cut : (n : ℕ) (xs : List A) → told f false (min n (length xs)) (drop n xs) ≡ told f false n (drop n xs)
  unfolding told
  told_cut n xs =
      elim (is (leb n (length xs))) [
        | yes! b ↦ let h = leb-true n (length xs) b in let e : min n (length xs) ≡ n = omega arith in rw e
        | no! b ↦ let h = leb-false n (length xs) b in rw (drop_of_length-le xs {i = n} (omega arith))
      ]

  told_none : (place : ℕ) (l : List A) → held f l ≡ 0 → told f false place l ≡ []
  unfolding held told placed
  told_none place [] e = refl
  told_none place (x ∷ l) e =
      elim (is (all_zero (f x))) [
        | yes! z ↦ let h : 0 + held f l ≡ 0 = rw z at e in rw z (told_none (suc place) l (omega arith))
        | no! z ↦ let h : 1 + held f l ≡ 0 = rw z at e in absurd (omega arith)
      ]

  -- none of them holds anything
  pub past_none : (xs ys : List A) (n from h : ℕ) → from ≡ min n (length xs) → ys ≡ drop from xs → h ≡ held f ys → h ≡ 0
      → h ∷ [] ≡ past f n xs
  unfolding past
  past_none xs ys n from h e s w o =
      let z : ys ≡ drop n xs = s ∙ rw e (cut n xs) in
      let g : h ≡ held f (drop n xs) = w ∙ ap (held f) z in
      rw (told_none n (drop n xs) (sym g ∙ o)) (ap (λ x. x ∷ []) g)

  pub past_end : (xs ys : List A) (n from i h : ℕ) → from ≡ min n (length xs) → ys ≡ drop from xs → length ys ≤ i → h ≡ held f ys
      → h ∷ told f false from (take i ys) ≡ past f n xs
  unfolding past
  past_end xs ys n from i h e s g w =
      let z : ys ≡ drop n xs = s ∙ rw e (cut n xs) in
      let t : told f false from (take i ys) ≡ told f false n (drop n xs) =
      ap (told f false from) (take_all i ys g ∙ z) ∙ rw e (told_cut n xs) in
      rw (t, w, z)
