-- SPDX-License-Identifier: Apache-2.0
-- The records that a sheet holds: the codes are 1 to 9, the places 0 to 15, the number has 32 bits.
use Rattle.std.specs.Prelude.{ℕ, Bool, ◌&&◌, ltb, leb, if◌then◌else◌}
use Rattle.sheet_lines.specs.declared.Record.{Record}

unfoldable pub good : Record → Bool
good r = ltb 0 r.code && leb r.code 9 && leb r.place 15 && leb r.number 4294967295

-- a flag as a number
abbrev pub bit_of : Bool → ℕ
bit_of b = if b then 1 else 0
