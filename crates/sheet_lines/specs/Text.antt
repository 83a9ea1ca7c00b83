-- SPDX-License-Identifier: Apache-2.0
-- Text as bytes: a word, and a number in decimal.
use Rattle.std.specs.Prelude.{ℕ, zero, suc, ◌+◌, ◌/◌, ◌%◌, List, [], ◌∷◌, ltb, if◌then◌else◌}
use Prim.Native.Char.{code}
use Prim.Native.String.{String}
use Prim.Native.String as Text

-- the codes of a text's characters; they are its bytes where each is below 128
unfoldable pub bytes_of : String → List ℕ
bytes_of Text.[] = []
bytes_of (Text.◌∷◌ c s) = code c ∷ bytes_of s

abbrev pub SPACE : ℕ
SPACE = 32

abbrev pub NEWLINE : ℕ
NEWLINE = 10

-- the byte of a digit
abbrev pub digit : ℕ → ℕ
digit d = 48 + d

-- the decimal digits of n, of which there are at most as many as steps are left, in front of those behind
unfoldable pub digits_from : ℕ → ℕ → List ℕ → List ℕ
digits_from zero n behind = behind
digits_from (suc left) n behind = if ltb n 10 then digit n ∷ behind else digits_from left (n / 10) (digit (n % 10) ∷ behind)

-- a number below 2^64 has at most 20 digits
unfoldable pub decimal : ℕ → List ℕ
decimal n = digits_from 20 n []
