-- SPDX-License-Identifier: Apache-2.0
-- One name that opens every rule up to here, for what is computed: `unfolding sheet_rules`.
use Rattle.std.specs.Prelude.{ℕ}
use Rattle.sheet_steps.specs.Rules.{step_rules}
use Rattle.sheet.specs.Run.{line_after, or_end, run_from, run_sheet, turns, in_blocks}

unfoldable pub sheet_rules : ℕ
unfolding step_rules line_after or_end run_from run_sheet turns in_blocks
sheet_rules = 0
