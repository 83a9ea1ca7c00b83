-- SPDX-License-Identifier: Apache-2.0
-- Laws of a record's text: the two ends of the rule. Assumes nothing.
use Prim.Native.Nat.{ℕ}
use mathlib.Core.Path.{◌≡◌}
use mathlib.Core.Bool.{true, false}
use mathlib.Core.List.{[], ◌∷◌, ◌++◌, append-nil}
use Rattle.sheet_lines.specs.declared.Said.{Said}
use Rattle.sheet_lines.specs.Text.{NEWLINE}
use Rattle.sheet_lines.specs.Words.{is_bad, line_of}
use Rattle.sheet_standing.specs.declared.Standing.{Standing}
use Rattle.picture_numbers.specs.Numbers.{spaced}
use Rattle.trace.specs.Record.{front, standing_numbers, record_text}

module _ (number : ℕ) (said : Said) (s : Standing) where
  pub record_bad : is_bad said ≡ true → front (line_of number said s.state.clean s.state.loading) ++ (NEWLINE ∷ []) ≡ record_text number said s
  unfolding record_text
  record_bad e = rw (e, append-nil)

  pub record_good : is_bad said ≡ false
      → (front (line_of number said s.state.clean s.state.loading) ++ spaced (standing_numbers s)) ++ (NEWLINE ∷ []) ≡ record_text number said s
  unfolding record_text
  record_good e = rw e
