-- SPDX-License-Identifier: Apache-2.0
-- Laws of the lines of records, whose bytes are cut into pieces of 24. Assumes nothing.
use Rattle.std.proofs.Common.{Some, None, min}
use Prim.Native.Nat.{ℕ, zero, suc, ◌+◌, ◌≤◌, ◌<◌}
use native.Mathlib.Omega.{arith}
use mathlib.Core.Path.{◌≡◌, refl, sym, ◌∙◌, ap}
use mathlib.Core.List.{List, [], ◌++◌, append-nil}
use lib.Dec.{leb}
use lib.ListN.{length, drop, drop_of_length-le, length-append, get_or-append}
use lib.Seq.{drop-append_seam}
use borrow.Author.Tests.{ne_eqb, eq-eqb, le-leb, leb-true, leb-false}
use Rattle.std.proofs.lemmas.List.{nil_from_length}
use Rattle.basics.proofs.Tests.{is, yes!, no! }
use Rattle.sheet_lines.specs.declared.Record.{Record}
use Rattle.sheet_lines.specs.Record.{low, in_range, fields_of, read_record}
use Rattle.sheet_show.specs.Form.{shown, listed_text}

-- ---- a record is read from the first 24 bytes
low_front : (n : ℕ) (x more : List ℕ) (at : ℕ) → at + n ≤ length x → low n (x ++ more) at ≡ low n x at
unfolding low
low_front zero x more at h = refl
low_front (suc n) x more at h = rw (get_or-append x more 0 at (omega arith), low_front n x more (at + 1) (omega arith))

read_front : (x more : List ℕ) → 24 ≤ length x → read_record (x ++ more) ≡ read_record x
unfolding read_record in_range fields_of
read_front x more h =
    rw (
      get_or-append x more 0 0 (omega arith),
      get_or-append x more 0 1 (omega arith),
      get_or-append x more 0 2 (omega arith),
      get_or-append x more 0 3 (omega arith),
      low_front 4 x more 4 (omega arith),
      low_front 8 x more 8 (omega arith),
      low_front 8 x more 16 (omega arith),
      le-leb 24 (length x) h,
      le-leb 24 (length (x ++ more)) (omega (arith, length-append x more)),
    )

-- a piece in front of the rest, and what is read from the two
front_is : (x more : List ℕ) → length x ≡ min 24 (length (x ++ more)) → (read_record (x ++ more) ≡ read_record x) × (drop 24 (x ++ more) ≡ more)
front_is x more size = elim (is (leb 24 (length x))) [
  | yes! y ↦
      let long = leb-true 24 (length x) y in
      let e : length x ≡ 24 = omega (arith, length-append x more) in
      (read_front x more long, ap (λ k. drop k (x ++ more)) (sym e) ∙ drop-append_seam x more)
  | no! n ↦
      let short = leb-false 24 (length x) n in
      let none : more ≡ [] = nil_from_length more (omega (arith, length-append x more)) in
      let past : length x ≤ 24 = omega arith in
      rw (none, append-nil x) (refl, drop_of_length-le x past)
]

-- ---- the lines, one at a time
pub listed_end : (left : ℕ) (rest : List ℕ) → (0 < left → length rest ≡ 0) → listed_text left rest ≡ []
unfolding listed_text
listed_end zero rest h = refl
listed_end (suc left) rest h = rw (eq-eqb (length rest) 0 (h (omega arith)))

module _ (rest x more : List ℕ) (e : rest ≡ x ++ more) (size : length x ≡ min 24 (length rest)) (some : 0 < length rest) (left next : ℕ) (n : next + 1 ≡ left) where
  is_some : length rest ≡ 0 → ⊥
  is_some z = omega arith

  front : (read_record rest ≡ read_record x) × (drop 24 rest ≡ more)
  front = rw e (front_is x more (rw e at size))

  pub listed_bad : read_record x ≡ None → listed_text left rest ≡ []
  unfolding listed_text
  listed_bad bad = let l : left ≡ suc next = omega arith in rw (l, ne_eqb (length rest) 0 is_some, front.0, bad)

  pub listed_more : (r : Record) → read_record x ≡ Some r → listed_text left rest ≡ shown r ++ listed_text next more
  unfolding listed_text
  listed_more r read = let l : left ≡ suc next = omega arith in rw (l, ne_eqb (length rest) 0 is_some, front.0, read, front.1)
