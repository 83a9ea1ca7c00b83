-- SPDX-License-Identifier: Apache-2.0
-- One name that opens the rules, the gate, the ledger and the claim, for what is computed: `unfolding opened`.
use Rattle.std.specs.Prelude.{ℕ}
use Rattle.ledger.specs.Opened as plain
use Rattle.gate.specs.Gate.{at_first, one_more, one_less, begin_pause, end_pause, begin_dirty, end_dirty, admits, stops}
use Rattle.passage.specs.Access.{access_through}
use Rattle.passage.specs.Resize.{need_input_of, attempted, attempt_rule, pass_steps, resize_through}
use Rattle.gate_ledger.specs.Calls.{gate_after, turn_gate, event, after, run, log}
use Rattle.gate_ledger.specs.Ledger.{begin, allows, stopped, loads, mark_after, feed_mark, feed_turn, feed, feeds}
use Rattle.gate_ledger.specs.Claim.{read_as, expect_turn, may_be, ledger_of}

unfoldable pub opened : ℕ
unfolding plain.opened at_first one_more one_less begin_pause end_pause begin_dirty end_dirty admits stops access_through
    need_input_of attempted attempt_rule pass_steps resize_through gate_after turn_gate event after run log
    begin allows stopped loads mark_after feed_mark feed_turn feed feeds read_as expect_turn may_be ledger_of
opened = 0
