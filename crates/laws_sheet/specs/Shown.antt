-- SPDX-License-Identifier: Apache-2.0
-- What the lines of a sheet show, and the claim on every sheet.
use Rattle.std.specs.Prelude.{ℕ, ◌+◌, ◌*◌, ◌≤◌, ◌≡◌, Bool, true, false, List, [], ◌++◌, length, drop}
use Rattle.basics.specs.Numbers.{MAX}
use Rattle.sheet_lines.specs.declared.Said.{Said}
use Rattle.sheet_lines.specs.Record.{byte_at}
use Rattle.sheet_lines.specs.Words.{is_bad, line_of}
use Rattle.sheet.specs.Run.{run_sheet}
use Rattle.laws_sheet.specs.Refusals.{sayable}

-- a text that is the lines of these bytes, from the record n on: a line for each record, with a word that passes the test for the
-- record's code, and none after `bad`
pub data Shown (p : ℕ → Said → Bool) : ℕ → List ℕ → List ℕ → Type 0 where
  ends! : {n : ℕ} {bytes : List ℕ} → length bytes ≡ 0 → Shown p n bytes []
  bad! : {n : ℕ} {bytes : List ℕ} (said : Said) (clean loading : ℕ) → is_bad said ≡ true → Shown p n bytes (line_of n said clean loading)
  line! : {n : ℕ} {bytes text : List ℕ} (said : Said) (clean loading : ℕ) → is_bad said ≡ false → p (byte_at bytes 0) said ≡ true
      → Shown p (n + 1) (drop 24 bytes) text → Shown p n bytes (line_of n said clean loading ++ text)

-- the claim: of at most 2^64 − 1 records each shows no refusal but those of its code, and none shows 3, 4, 7, 9 or 10, which are in no row
abbrev pub RefusalsShown : Type 0
RefusalsShown = (bytes : List ℕ) → length bytes ≤ 24 * MAX → Shown (sayable false) 0 bytes (run_sheet bytes)
