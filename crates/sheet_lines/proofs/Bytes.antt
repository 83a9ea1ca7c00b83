-- SPDX-License-Identifier: Apache-2.0
-- Laws on the digits of a number: one at a time, and that they are those of std's `decimal`. Assumes nothing.
use Prim.Native.Nat.{ℕ, zero, suc, ◌-◌, ◌/◌, ◌%◌, ◌^◌, ◌≤◌, ◌<◌}
use native.Mathlib.Omega.{arith}
use mathlib.Core.Path.{◌≡◌, sym, ◌∙◌, ap}
use mathlib.Core.List.{List, [], ◌∷◌, ◌++◌, append_assoc, append-nil}
use borrow.Author.Tests.{lt-ltb, le-ltb, ltb-true, ltb-false}
use Rattle.basics.proofs.Tests.{is, yes!, no! }
use lib.Dec.{ltb}
use Rattle.std.specs.Fmt.{decimal as std_decimal}
use Rattle.std.proofs.lemmas.Fmt.{decimal_digit, decimal_step}
use Rattle.sheet_lines.specs.Text.{digit, digits_from, decimal}

pub last_digit : (left n : ℕ) (behind : List ℕ) → 0 < left → n < 10 → digits_from left n behind ≡ digit n ∷ behind
unfolding digits_from
last_digit zero n behind p h = absurd (omega arith)
last_digit (suc left) n behind p h = rw (lt-ltb n 10 h)

pub more_digits : (left n : ℕ) (behind : List ℕ) → 0 < left → 10 ≤ n → digits_from left n behind ≡ digits_from (left - 1) (n / 10) (digit (n % 10) ∷ behind)
unfolding digits_from
more_digits zero n behind p h = absurd (omega arith)
more_digits (suc left) n behind p h = let e : suc left - 1 ≡ left = omega arith in rw (le-ltb n 10 h, e)

all_digits : (left n : ℕ) (behind : List ℕ) → n < 10 ^ left → 0 < left → n < 2 ^ 64 → digits_from left n behind ≡ std_decimal n ++ behind
all_digits zero n behind h p w = absurd (omega arith)
all_digits (suc zero) n behind h p w =
    let s : n < 10 = omega arith in
    last_digit 1 n behind p s ∙ ap (λ l. l ++ behind) (sym (decimal_digit n s))
all_digits (suc (suc left)) n behind h p w = elim (is (ltb n 10)) [
  | yes! e ↦
      let s = ltb-true n 10 e in
      last_digit (suc (suc left)) n behind p s ∙ ap (λ l. l ++ behind) (sym (decimal_digit n s))
  | no! e ↦
      let s = ltb-false n 10 e in
      let o : suc (suc left) - 1 ≡ suc left = omega arith in
      let less : n / 10 < 10 ^ suc left = omega arith in
      more_digits (suc (suc left)) n behind p s
      ∙ ap (λ k. digits_from k (n / 10) (digit (n % 10) ∷ behind)) o
      ∙ all_digits (suc left) (n / 10) (digit (n % 10) ∷ behind) less (omega arith) (omega arith)
      ∙ sym (append_assoc (std_decimal (n / 10)) (digit (n % 10) ∷ []) behind)
      ∙ ap (λ l. l ++ behind) (sym (decimal_step n s w))
]

pub decimal_same : (n : ℕ) → n < 2 ^ 64 → decimal n ≡ std_decimal n
unfolding decimal
decimal_same n w = all_digits 20 n [] (omega arith) (omega arith) w ∙ append-nil (std_decimal n)
