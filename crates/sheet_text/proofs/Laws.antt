-- SPDX-License-Identifier: Apache-2.0
-- Laws of the text form, each end of a rule on plain variables: runs of blanks, numbers, words, the names of a list, values in their ranges, the words of
-- a line.
-- Assumes nothing.
use Prim.Native.Nat.{ℕ, zero, suc, ◌+◌, ◌-◌, ◌*◌, ◌≤◌, ◌<◌}
use native.Mathlib.Omega.{arith}
use native.Mathlib.Numerals.{add-one}
use mathlib.Core.Path.{◌≡◌, refl, sym, ◌∙◌, ap, subst}
use mathlib.Core.Bool.{Bool, true, false, not, cond, beq, ◌&&◌}
use mathlib.Core.List.{List, [], ◌∷◌}
use lib.Dec.{eqb, ltb, leb}
use lib.ListN.{length, take, drop, set, get_or, drop_of_length-le}
use lib.Seq.{drop-cons, drop-drop, get_or-set_same, get_or-set_other}
use borrow.Author.Tests.{lt-ltb, le-ltb, le-leb, eq-eqb, ne_eqb, eqb-true, eqb-false, ltb-true, ltb-false, leb-true, leb-false}
use Rattle.std.proofs.Common.{Option, Some, None, Result, Ok, Err, unwrap_or}
use Rattle.std.specs.List.{slice_range, position, position_or_len}
use Rattle.std.specs.Str.{bytes_eq}
use Rattle.std.specs.Char.{is_ascii_digit}
use Rattle.std.proofs.lemmas.Bool.{false≢true}
use Rattle.std.proofs.lemmas.List.Sums.{prefix_len-le-length}
use Rattle.std.proofs.lemmas.List.Recursion.{is_position_or_len}
use Rattle.std.proofs.lemmas.Option.{none-some, same_Some}
use Rattle.std.proofs.lemmas.Slice.{between_to_end}
use Rattle.basics.proofs.Tests.{is, yes!, no!, and_left, and_right}
use Rattle.sheet_text.specs.Fields.{field, value_at, within}
use Rattle.sheet_text.specs.Find.{index_of}
use Rattle.sheet_record.specs.Good.{good}
use Rattle.sheet_lines.specs.declared.Record.{Record}
use Rattle.sheet_text.specs.declared.Why.{Why}
use Rattle.sheet_text.specs.declared.Ask.{Ask}
use Rattle.sheet_text.specs.declared.Field.{Field}
use Rattle.sheet_text.specs.declared.Begun.{Begun}
use Rattle.sheet_text.specs.declared.Span.{Span}
use Rattle.sheet_text.specs.declared.Fault.{Fault}
use Rattle.sheet_text.specs.Parse.{and_then, is_blank, counts_as, run_of, place_in, number_from, number_of, skip, word_size, word, behind, word_from, word_to, span_at, next_word, least, most, call_of, begin, faulty, field_of, with_value, with_word, record_of, finished, with_words, text_says}

-- ---- the first byte that is so
-- a count of the bytes before it is what `position` finds
pos_le : (p : ℕ → Bool) (xs : List ℕ) → position_or_len p xs ≤ length xs
pos_le p xs = prefix_len-le-length (λ x. not (p x)) xs

first_is : (F : List ℕ → ℕ) (p : ℕ → Bool) → F [] ≡ 0 → ((x : ℕ) (xs : List ℕ) → F (x ∷ xs) ≡ cond (p x) 0 (1 + F xs)) → (xs : List ℕ)
    → unwrap_or (position p xs) (length xs) ≡ F xs
first_is F p none more xs = elim (is (ltb (position_or_len p xs) (length xs))) [
  | yes! e ↦ rw e (sym (is_position_or_len F p none more xs))
  | no! e ↦ rw e (sym (is_position_or_len F p none more xs ∙ omega (arith, ltb-false _ _ e, pos_le p xs)))
]

find_step : (b x : ℕ) (xs : List ℕ) (t : Bool) → t ≡ eqb x b → index_of b (x ∷ xs) ≡ cond (eqb x b) 0 (1 + index_of b xs)
unfolding index_of
find_step b x xs true e = rw (← e)
find_step b x xs false e = rw (← e) (omega arith)

pub find_is : (b : ℕ) (l : List ℕ) (o : Option ℕ) → o ≡ position (λ x. eqb x b) l → unwrap_or o (length l) ≡ index_of b l
unfolding index_of
find_is b l o e = rw e (first_is (λ t. index_of b t) (λ x. eqb x b) refl (λ x xs. find_step b x xs (eqb x b) refl) l)

pub counts_lem : (blank : Bool) (b : ℕ) → beq (is_blank b) blank ≡ counts_as blank b
unfolding counts_as
counts_lem blank b = beq_lem (is_blank b) blank
  where
    beq_lem : (a b : Bool) → beq a b ≡ cond a b (not b)
    beq_lem true true = refl
    beq_lem true false = refl
    beq_lem false true = refl
    beq_lem false false = refl

run_step : (blank : Bool) (x : ℕ) (xs : List ℕ) (b : Bool) → b ≡ counts_as blank x → run_of blank (x ∷ xs) ≡ cond (not (counts_as blank x)) 0 (1 + run_of blank xs)
unfolding run_of
run_step blank x xs true e = rw (← e) (omega arith)
run_step blank x xs false e = rw (← e)

pub run_is : (blank : Bool) (l : List ℕ) (o : Option ℕ) → o ≡ position (λ x. not (counts_as blank x)) l → unwrap_or o (length l) ≡ run_of blank l
unfolding run_of
run_is blank l o e = rw e (first_is (λ t. run_of blank t) (λ x. not (counts_as blank x)) refl (λ x xs. run_step blank x xs (counts_as blank x) refl) l)

-- ---- a number's digits
digit_above : (b : ℕ) → 48 ≤ b → is_ascii_digit b ≡ false → 57 < b
digit_above b l h = elim (is (leb b 57)) [
  | yes! e ↦ absurd (false≢true (sym h ∙ rw (le-leb 48 b l, e)))
  | no! e ↦ omega (arith, leb-false _ _ e)
]

pub number_begins : (w : List ℕ) → (length w ≡ 0 → ⊥) → number_from 0 w ≡ number_of w
unfolding number_of
number_begins w n = rw (ne_eqb (length w) 0 n)

module _ (w : List ℕ) (n i : ℕ) (inside : i < length w) where
  pub digit_none : is_ascii_digit (get_or w i 0) ≡ false → number_from n (drop i w) ≡ Err Why.NoNumber
  unfolding number_from
  digit_none h = elim (is (ltb (get_or w i 0) 48)) [
    | yes! e ↦ rw (drop-cons w i 0 inside, e)
    | no! e ↦
        let l = ltb-false _ _ e in
        let m = digit_above (get_or w i 0) l h in
        rw (drop-cons w i 0 inside, e, lt-ltb _ _ m)
  ]

  pub digit_large : 48 ≤ get_or w i 0 → get_or w i 0 ≤ 57 → 18446744073709551615 < n * 10 + (get_or w i 0 - 48) → number_from n (drop i w) ≡ Err Why.Range
  unfolding number_from
  digit_large l h m = rw (drop-cons w i 0 inside, le-ltb _ _ l, le-ltb _ _ h, lt-ltb _ _ m)

  pub digit_goes : 48 ≤ get_or w i 0 → get_or w i 0 ≤ 57 → n * 10 + (get_or w i 0 - 48) ≤ 18446744073709551615 → number_from n (drop i w) ≡ number_from (n * 10 + (get_or w i 0 - 48)) (drop (i + 1) w)
  unfolding number_from
  digit_goes l h m = rw (drop-cons w i 0 inside, le-ltb _ _ l, le-ltb _ _ h, le-ltb _ _ m, add-one)

pub digits_end : (w : List ℕ) (n i : ℕ) → length w ≤ i → number_from n (drop i w) ≡ Ok n
unfolding number_from
digits_end w n i h = rw (drop_of_length-le w h)

-- ---- the next word of a text, by its places
skip_is : (l : List ℕ) (at from : ℕ) → from ≡ at + run_of true (drop at l) → skip (drop at l) ≡ drop from l
skip_is l at from e = drop-drop (run_of true (drop at l)) at l ∙ ap (λ k. drop k l) (sym e)

from_at : (l : List ℕ) (at a : ℕ) → a ≡ run_of true (slice_range l at (length l)) → at + a ≡ at + run_of true (drop at l)
from_at l at a p = ap (λ k. at + k) (p ∙ ap (λ k. run_of true k) (between_to_end l at (length l) (omega arith)))

pub size_at : (l : List ℕ) (at from b : ℕ) → from ≡ at + run_of true (drop at l) → b ≡ run_of false (take (length l - from) (drop from l)) → b ≡ word_size (drop at l)
size_at l at from b e r = r ∙ ap (λ k. run_of false k) (between_to_end l from (length l) (omega arith) ∙ sym (skip_is l at from e))

module _ (l : List ℕ) (at from to : ℕ) (from_is : from ≡ at + run_of true (drop at l)) (to_is : to ≡ from + word_size (drop at l)) where
  pub size_is : word_size (drop at l) ≡ to - from
  size_is = omega arith

  pub word_is : word (drop at l) ≡ take (to - from) (drop from l)
  word_is = ap (λ k. take k (skip (drop at l))) size_is ∙ ap (λ k. take (to - from) k) (skip_is l at from from_is)

  pub behind_is : behind (drop at l) ≡ drop to l
  behind_is = ap (λ k. drop (word_size (drop at l)) k) (skip_is l at from from_is) ∙ drop-drop (word_size (drop at l)) from l ∙ ap (λ k. drop k l) (sym to_is)

-- ---- the next word, by what the code answers
pub next_none : (l : List ℕ) (at a b : ℕ) → a ≡ run_of true (slice_range l at (length l)) → b ≡ run_of false (slice_range l (at + a) (length l))
    → at + a ≡ at + a + b → None ≡ next_word at (drop at l)
next_none l at a b p q h =
    let f = from_at l at a p in
    let z = size_at l at (at + a) b f q in
    rw (eq-eqb (word_size (drop at l)) 0 (omega arith))

pub next_some : (l : List ℕ) (at a b : ℕ) → a ≡ run_of true (slice_range l at (length l)) → b ≡ run_of false (slice_range l (at + a) (length l))
    → (at + a ≡ at + a + b → ⊥) → Some (record { from = at + a; to = at + a + b }) ≡ next_word at (drop at l)
next_some l at a b p q n =
    let f = from_at l at a p in
    let z = size_at l at (at + a) b f q in
    rw (ne_eqb (word_size (drop at l)) 0 (λ e. n (omega arith)), ← f, ← z)

-- where there is none, and its places where there is one
none_size : (at : ℕ) (t : List ℕ) → next_word at t ≡ None → eqb (word_size t) 0 ≡ true
none_size at t e = elim (is (eqb (word_size t) 0)) [
  | yes! y ↦ y
  | no! n ↦ absurd (none-some (span_at at t) (sym (rw n at e)))
]

some_size : (at : ℕ) (t : List ℕ) (w : Span) → next_word at t ≡ Some w → (eqb (word_size t) 0 ≡ false) × (span_at at t ≡ w)
some_size at t w e = elim (is (eqb (word_size t) 0)) [
  | yes! y ↦ absurd (none-some w (rw y at e))
  | no! n ↦ (n, same_Some (span_at at t) w (rw n at e))
]

pub words_none : (l : List ℕ) (at left : ℕ) (b : Begun) (call : Span) → next_word at (drop at l) ≡ None → with_words left b call at (drop at l) ≡ finished b call
unfolding with_words
words_none l at zero b call e = refl
words_none l at (suc left) b call e = rw (none_size at (drop at l) e)

module _ (l : List ℕ) (at : ℕ) (w : Span) (e : next_word at (drop at l) ≡ Some w) where
  span_is : (w.from ≡ at + run_of true (drop at l)) × (w.to ≡ w.from + word_size (drop at l))
  span_is = let s = (some_size at (drop at l) w e).1 in rw (← s) (refl, refl)

  taken_is : word (drop at l) ≡ slice_range l w.from w.to
  taken_is = word_is l at w.from w.to span_is.0 span_is.1

  left_is : behind (drop at l) ≡ drop w.to l
  left_is = behind_is l at w.from w.to span_is.0 span_is.1

  begins_is : word_from at (drop at l) ≡ w.from
  begins_is = ap (λ (x : Span). x.from) (some_size at (drop at l) w e).1

  to_is : word_to at (drop at l) ≡ w.to
  to_is = ap (λ (x : Span). x.to) (some_size at (drop at l) w e).1

  -- behind k steps of as many as the text has bytes
  module _ (k : ℕ) (h : k < length l) where
    step_is : length l - k ≡ suc (length l - (k + 1))
    step_is = omega arith

    module _ (b : Begun) (call : Span) where
      pub words_wrong : (why : Why) → with_word b (slice_range l w.from w.to) ≡ Err why → with_words (length l - k) b call at (drop at l) ≡ faulty why w
      unfolding with_words
      words_wrong why s = rw (step_is, (some_size at (drop at l) w e).0, taken_is, s) (ap (λ x. faulty why x) (some_size at (drop at l) w e).1)

      pub words_more : (next : Begun) → with_word b (slice_range l w.from w.to) ≡ Ok next
          → with_words (length l - k) b call at (drop at l) ≡ with_words (length l - (k + 1)) next call w.to (drop w.to l)
      unfolding with_words
      words_more next s = rw (step_is, (some_size at (drop at l) w e).0, taken_is, left_is, to_is, s)

    -- a list of names
    module _ (name : List ℕ) where
      pub names_here : bytes_eq name (slice_range l w.from w.to) ≡ true → place_in (length l - k) (drop at l) name ≡ 0
      unfolding place_in
      names_here s = rw (step_is, (some_size at (drop at l) w e).0, taken_is, s)

      pub names_more : bytes_eq name (slice_range l w.from w.to) ≡ false
          → place_in (length l - k) (drop at l) name ≡ place_in (length l - (k + 1)) (drop w.to l) name + 1
      unfolding place_in
      names_more s = rw (step_is, (some_size at (drop at l) w e).0, taken_is, s, left_is) (sym (add-one (place_in (length l - (k + 1)) (drop w.to l) name)))

pub names_none : (l : List ℕ) (at left : ℕ) (name : List ℕ) → next_word at (drop at l) ≡ None → place_in left (drop at l) name ≡ 0
unfolding place_in
names_none l at zero name e = refl
names_none l at (suc left) name e = rw (none_size at (drop at l) e)

-- ---- the first word of a line
pub text_none : (l : List ℕ) → next_word 0 l ≡ None → text_says l ≡ Ok None
unfolding text_says
text_none l e = rw (none_size 0 l e)

module _ (l : List ℕ) (w : Span) (e : next_word 0 l ≡ Some w) where
  called : call_of (word l) ≡ call_of (slice_range l w.from w.to)
  called = ap call_of (taken_is l 0 w e)

  pub text_no_call : 10 < call_of (slice_range l w.from w.to) → text_says l ≡ faulty Why.NoCall w
  unfolding text_says
  text_no_call h = rw ((some_size 0 l w e).0, called, lt-ltb 10 _ h) (ap (λ k. faulty Why.NoCall k) (some_size 0 l w e).1)

  pub text_call : (b : Begun) → b ≡ begin (call_of (slice_range l w.from w.to)) → call_of (slice_range l w.from w.to) ≤ 10 → (r : Result Record Fault)
      → r ≡ with_words (length l) b w w.to (drop w.to l) → text_says l ≡ and_then r (λ r. Ok (Some r))
  unfolding text_says
  text_call b f h r g =
      rw ((some_size 0 l w e).0, called, le-ltb 10 _ h, left_is l 0 w e, to_is l 0 w e, begins_is l 0 w e, g, f)

pub words_end : (left : ℕ) (b : Begun) (call : Span) (at : ℕ) (text : List ℕ) → left ≤ 0 → with_words left b call at text ≡ finished b call
unfolding with_words
words_end zero b call at text h = refl
words_end (suc left) b call at text h = absurd (omega arith)

pub names_end : (left : ℕ) (names w : List ℕ) → left ≤ 0 → place_in left names w ≡ 0
unfolding place_in
names_end zero names w h = refl
names_end (suc left) names w h = absurd (omega arith)

-- ---- a word behind a call
module _ (b : Begun) (w : List ℕ) where
  pub word_number : index_of 61 w ≡ length w → with_word b w ≡ and_then (number_of w) (λ v. with_value b 4 v)
  unfolding with_word
  word_number e = rw (eq-eqb (index_of 61 w) (length w) e)

  module _ (n : index_of 61 w ≡ length w → ⊥) where
    pub word_no_field : 6 < field_of (take (index_of 61 w) w) → with_word b w ≡ Err Why.NoField
    unfolding with_word
    word_no_field h = rw (ne_eqb (index_of 61 w) (length w) n, lt-ltb 6 _ h)

    pub word_field : field_of (take (index_of 61 w) w) ≤ 6
        → with_word b w ≡ and_then (number_of (slice_range w (index_of 61 w + 1) (length w))) (λ v. with_value b (field_of (take (index_of 61 w) w)) v)
    unfolding with_word
    word_field h = rw (ne_eqb (index_of 61 w) (length w) n, le-ltb 6 _ h, between_to_end w (index_of 61 w + 1) (length w) (omega arith))

-- ---- values in their ranges
-- a test of a value holds after another was stored, or this one
stored : (test : ℕ → Bool) (l : List Field) (k v j : ℕ) (a : Ask) → k < length l → (k ≡ j → test v ≡ true) → test (value_at l j) ≡ true → test (value_at (set l k (field v a)) j) ≡ true
stored test l k v j a h new old = elim (is (eqb j k)) [
  | yes! e ↦ let s = eqb-true j k e in ap (λ i. test (value_at (set l k (field v a)) i)) s ∙ ap (λ (x : Field). test x.value) (get_or-set_same l k (field v a) (field 0 Ask.No) h) ∙ new (sym s)
  | no! e ↦ ap (λ (x : Field). test x.value) (get_or-set_other l k j (field v a) (field 0 Ask.No) (eqb-false j k e)) ∙ old
]

-- the parts of the test
pub within_parts : (l : List Field) → within l ≡ true → (0 < value_at l 0) × (value_at l 0 ≤ 9) × (value_at l 2 ≤ 255) × (value_at l 3 ≤ 15) × (value_at l 4 ≤ 4294967295)
unfolding within
within_parts l w =
    let a = ltb 0 (value_at l 0) in
    let b = leb (value_at l 0) 9 in
    let c = leb (value_at l 2) 255 in
    let d = leb (value_at l 3) 15 in
    let e = leb (value_at l 4) 4294967295 in
    let w₁ = and_left (a && b && c && d) e w in
    let w₂ = and_left (a && b && c) d w₁ in
    let w₃ = and_left (a && b) c w₂ in
    (ltb-true _ _ (and_left a b w₃), leb-true _ _ (and_right a b w₃), leb-true _ _ (and_right (a && b) c w₂), leb-true _ _ (and_right (a && b && c) d w₁), leb-true _ _ (and_right (a && b && c && d) e w))

-- a value is stored in the range of its field
pub within_set : (l : List Field) (k v : ℕ) → length l ≡ 7 → k ≤ 6 → least k ≤ v → v ≤ most k → within l ≡ true → within (set l k (field v Ask.Was)) ≡ true
unfolding within least most
within_set l k v e h low high w =
    let p = within_parts l w in
    let inside : k < length l = omega arith in
    let ups : (j m : ℕ) → most j ≡ m → k ≡ j → v ≤ m = λ j m q f. subst (λ x. v ≤ x) (ap most f ∙ q) high in
    rw (
      stored (λ x. ltb 0 x) l k v 0 Ask.Was inside (λ f. lt-ltb 0 v (subst (λ x. least x ≤ v) f low)) (lt-ltb _ _ p.0),
      stored (λ x. leb x 9) l k v 0 Ask.Was inside (λ f. le-leb v 9 (ups 0 9 refl f)) (le-leb _ _ p.1),
      stored (λ x. leb x 255) l k v 2 Ask.Was inside (λ f. le-leb v 255 (ups 2 255 refl f)) (le-leb _ _ p.2),
      stored (λ x. leb x 15) l k v 3 Ask.Was inside (λ f. le-leb v 15 (ups 3 15 refl f)) (le-leb _ _ p.3),
      stored (λ x. leb x 4294967295) l k v 4 Ask.Was inside (λ f. le-leb v 4294967295 (ups 4 4294967295 refl f)) (le-leb _ _ p.4),
    )

pub good_values : (l : List Field) → within l ≡ true → good (record_of l) ≡ true
unfolding good record_of
good_values l w =
    let p = within_parts l w in
    rw (lt-ltb _ _ p.0, le-leb _ _ p.1, le-leb _ _ p.3, le-leb _ _ p.4)
