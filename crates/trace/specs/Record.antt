-- SPDX-License-Identifier: Apache-2.0
-- The trace of a record, as oracle/README.md has it.
use Rattle.std.specs.Prelude.{ℕ, ◌-◌, List, [], ◌∷◌, ◌++◌, length, take, if◌then◌else◌}
use Rattle.sheet_lines.specs.declared.Said.{Said}
use Rattle.sheet_lines.specs.Text.{NEWLINE}
use Rattle.sheet_lines.specs.Words.{is_bad, line_of}
use Rattle.sheet_standing.specs.declared.Standing.{Standing}
use Rattle.picture_numbers.specs.Numbers.{word_numbers, spaced, past}
use Rattle.picture.specs.Table.{table_numbers, past_numbers}

-- a line without its end
unfoldable pub front : List ℕ → List ℕ
front line = take (length line - 1) line

-- 2 to 12: the table, "pins: one number for each slot below the capacity, 0 or 1", and the places past the lengths, those of the pins last
unfoldable pub standing_numbers : Standing → List ℕ
standing_numbers s =
    table_numbers s.state ++ take s.state.capacity s.pins
    ++ past_numbers s.state ++ past word_numbers s.state.capacity s.pins

-- "With `--trace` each line goes on, and is one line still. .. A line that says `bad` has nothing more."
unfoldable pub record_text : ℕ → Said → Standing → List ℕ
record_text number said s =
    front (line_of number said s.state.clean s.state.loading)
    ++ (if is_bad said then [] else spaced (standing_numbers s)) ++ (NEWLINE ∷ [])
