-- SPDX-License-Identifier: Apache-2.0
-- What stands between two records, and what a record makes of it and says.
use Rattle.std.specs.Prelude.{Result, Ok, Err}
use Rattle.basics.specs.declared.Refusal.{Refusal}
use Rattle.basics.specs.Answers.{number}
use Rattle.sheet_standing.specs.declared.Standing.{Standing}
use Rattle.sheet_lines.specs.declared.Said.{Said}
pub use Rattle.sheet_standing.specs.Standing.{empty_place, holding, with_state, with_pins, with_token, place_at}
unfoldable pub use Rattle.sheet_standing.specs.Standing.{empty_places, no_pins, start, afresh, lent_pins, lent_list, clean_of, loading_of}

-- what stands after a record, and what it said
pub record Stepped : Type 0 where
  pub standing : Standing
  pub said : Said

abbrev pub says : Standing → Said → Stepped
says s said = record { standing = s; said = said }

-- the word of an answer, or that it was refused
abbrev pub word : Result Said Refusal → Said
word (Ok said) = said
word (Err why) = Said.Refused (number why)
