-- SPDX-License-Identifier: Apache-2.0
-- Laws of what is written: two writings are one of both texts, nothing, as much of a text as there is room for; and the steps of the rules
-- over a list. Assumes nothing.
use Prim.Native.Nat.{ℕ, suc, ◌+◌, ◌-◌, ◌≤◌, ◌<◌, ◌^◌, min}
use native.Mathlib.Omega.{arith}
use native.Mathlib.Nat.{add-zero}
use mathlib.Core.Path.{◌≡◌, refl, sym, ◌∙◌, ap}
use mathlib.Core.Bool.{Bool}
use mathlib.Core.List.{List, [], ◌∷◌, ◌++◌, append_assoc, append-nil}
use lib.Dec.{leb, eqb}
use lib.ListN.{length, take, drop, set, get_or, length-append}
use lib.Seq.{sets, sets-eq, set_out, length-sets, length-take-le, take_all}
use borrow.Author.Tests.{leb-true, leb-false}
use borrow.Rule.Slice.Mut.{set_vals}
use borrow.Rule.Slice.PartMut.{put_mid}
use Rattle.std.specs.Fmt.{decimal as std_decimal}
use Rattle.std.specs.List.{list_all}
use Rattle.sheet_lines.proofs.Bytes.{decimal_same}
use Rattle.std.proofs.lemmas.List.{take-append-drop, take_more}
use Rattle.std.proofs.lemmas.Slice.{put_mid-paste}
use Rattle.basics.specs.Lists.{every}
use Rattle.basics.proofs.Tests.{is, yes!, no! }
use Rattle.sheet_lines.specs.Text.{decimal, SPACE}
use Rattle.picture_numbers.specs.declared.Page.{Page}
use Rattle.picture_numbers.specs.Wrote.{Wrote}
use Rattle.picture_numbers.specs.Numbers.{spaced, all_zero}

-- ---- stores
sets_out : (l : List ℕ) (i : ℕ) (vs : List ℕ) → length l ≤ i → sets l i vs ≡ l
sets_out l i [] h = refl
sets_out l i (a ∷ vs) h = rw (set_out l i a h) (sets_out l (suc i) vs (omega arith))

sets_append : (l : List ℕ) (i : ℕ) (a b : List ℕ) → sets l i (a ++ b) ≡ sets (sets l i a) (i + length a) b
sets_append l i [] b = rw add-zero
sets_append l i (x ∷ a) b =
    let e : suc i + length a ≡ i + suc (length a) = omega arith in
    sets_append (set l i x) (suc i) a b ∙ ap (λ k. sets (sets (set l i x) (suc i) a) k b) e

-- past the end the place does not matter
sets_least : (l : List ℕ) (i n : ℕ) (vs : List ℕ) → length l ≡ n → sets l (min i n) vs ≡ sets l i vs
sets_least l i n vs e =
    elim (is (leb i n)) [
      | yes! b ↦ let h = leb-true i n b in let m : min i n ≡ i = omega arith in rw m
      | no! b ↦ let h = leb-false i n b in sets_out l (min i n) vs (omega arith) ∙ sym (sets_out l i vs (omega arith))
    ]

-- nor does what there is no room for
sets_cut : (l vs : List ℕ) (i n : ℕ) → i ≤ length l → n ≡ min (length vs) (length l - i) → sets l i (take n vs) ≡ sets l i vs
sets_cut l vs i n h e =
    elim (is (leb (length vs) n)) [
      | yes! b ↦ let g = leb-true (length vs) n b in ap (sets l i) (take_all n vs g)
      | no! b ↦
          let g = leb-false (length vs) n b in
          let front : length (take n vs) ≡ n = length-take-le n vs (omega arith) in
          let size : length (sets l i (take n vs)) ≡ length l = length-sets l i (take n vs) in
          sym (ap (sets l i) (sym (take-append-drop n vs)) ∙ sets_append l i (take n vs) (drop n vs)
          ∙ sets_out (sets l i (take n vs)) (i + length (take n vs)) (drop n vs) (omega arith))
    ]

-- ---- writings
-- two writings, the second behind the first, are one of both texts
pub joined : {p q r : Page} {a b : List ℕ} → Wrote p a q → Wrote q b r → Wrote p (a ++ b) r
joined {p} {q} {r} {a} {b} v w =
    record {
      bytes =
          w.bytes ∙ ap (λ i. sets q.bytes.now i b) v.place ∙ sets_least q.bytes.now (p.at + length a) (length p.bytes.now) b v.size
          ∙ ap (λ x. sets x (p.at + length a) b) v.bytes ∙ sym (sets_append p.bytes.now p.at a b);
      place = rw (length-append a b) (omega (arith, v.place, w.place, v.size));
      size = w.size ∙ v.size;
      same_reference = w.same_reference ∙ v.same_reference;
    }

-- the same text under another name
pub wrote_as : {p q : Page} {a b : List ℕ} → a ≡ b → Wrote p a q → Wrote p b q
wrote_as e w = rw e at w

-- as much of a text as there is room for
pub stored : (p : Page) (text part : List ℕ) (from n : ℕ) → from ≡ min p.at (length p.bytes.now)
    → n ≡ min (length text) (length p.bytes.now - from) → part ≡ take n text
    → Wrote p text (record { bytes = set_vals (put_mid from (from + n - from) p.bytes.now part) p.bytes; at = from + n })
stored p text part from n e g w =
    let l = p.bytes.now in
    let i = p.at in
    let front : length (take n text) ≡ n = length-take-le n text (omega arith) in
    let bytes : put_mid from (from + n - from) l part ≡ sets l i text =
    put_mid-paste from (from + n - from) l part (take n text) n w (omega arith) (sym front)
    ∙ ap (λ x. take from l ++ x ++ drop (from + n) l) (take_all n (take n text) (omega arith))
    ∙ ap (λ k. take from l ++ take n text ++ drop (from + k) l) (sym front)
    ∙ sym (sets-eq (take n text) l from (omega arith))
    ∙ sets_cut l text from n (omega arith) g ∙ ap (λ k. sets l k text) e ∙ sets_least l i (length l) text refl in
    record { bytes = bytes; place = omega arith; size = ap length bytes ∙ length-sets l i text; same_reference = refl }

-- ---- numbers
pub spaced_append : (a b : List ℕ) → spaced (a ++ b) ≡ spaced a ++ spaced b
unfolding spaced
spaced_append [] b = refl
spaced_append (n ∷ a) b = rw (spaced_append a b) (ap (λ l. SPACE ∷ l) (sym (append_assoc (decimal n) (spaced a) (spaced b))))

-- two writings of numbers are one of both lists
pub numbers_joined : {p q r : Page} (a b : List ℕ) → Wrote p (spaced a) q → Wrote q (spaced b) r → Wrote p (spaced (a ++ b)) r
numbers_joined a b v w = rw (spaced_append a b) (joined v w)

-- a space, and a text
pub after_space : {p q r : Page} {a : List ℕ} → Wrote p (SPACE ∷ []) q → Wrote q a r → Wrote p (SPACE ∷ a) r
after_space v w = joined v w

-- a space, and a number as std writes it
pub one_number : {p q : Page} (n : ℕ) → n < 2 ^ 64 → Wrote p (SPACE ∷ std_decimal n) q → Wrote p (spaced (n ∷ [])) q
unfolding spaced
one_number n h w = wrote_as (ap (λ l. SPACE ∷ l) (sym (decimal_same n h) ∙ sym (append-nil (decimal n)))) w

pub no_numbers : {p q : Page} → Wrote p [] q → Wrote p (spaced []) q
unfolding spaced
no_numbers w = w

-- the next number of a list, behind those before it
pub one_more_number : {p q r : Page} {n : ℕ} (ns : List ℕ) (x : ℕ) → x < length ns → n ≡ get_or ns x 0
    → Wrote p (spaced (take x ns)) q → Wrote q (spaced (n ∷ [])) r → Wrote p (spaced (take (x + 1) ns)) r
one_more_number {n = n} ns x h e v w =
    wrote_as (ap (λ q. spaced (take x ns ++ q ∷ [])) e ∙ ap spaced (sym (take_more ns x 0 h))) (numbers_joined (take x ns) (n ∷ []) v w)

-- ---- all of them 0
pub every_all : {A : Type 0} (p : A → Bool) (l : List A) → list_all p l ≡ every p l
unfolding every
every_all p [] = refl
every_all p (x ∷ l) = rw (every_all p l)

pub zero_all : (ns : List ℕ) → list_all (λ n. eqb n 0) ns ≡ all_zero ns
unfolding all_zero
zero_all ns = every_all (λ n. eqb n 0) ns
