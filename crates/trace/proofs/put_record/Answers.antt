-- SPDX-License-Identifier: Apache-2.0
-- `trace::put_record` meets its contract. Assumes nothing.
use mathlib.Core.Path.{ap}
use Rattle.basics.proofs.Tests.{flag}
use Rattle.trace.specs.Record.{front}
use Rattle.picture_numbers.proofs.Laws.{wrote_as, joined}
use Rattle.trace.proofs.Laws.{record_bad, record_good}
use Rattle.trace.proofs.put_record.Goals as goal
use Rattle.trace.proofs.put_record.Goals.{then-not-is_bad, else-not-is_bad}

pub returns : goal.returns
returns c =
    let line = wrote_as (ap front c.line_of-line.ensures.result_value) c.put_line.ensures in
    elim c.if-not-is_bad.branch [
      | then-not-is_bad w ↦
          wrote_as (record_good c.args.number c.args.said c.args.s.now (flag c.is_bad.ensures w.if-not-is_bad.true))
          (joined (joined line w.put_standing.ensures) (rw w.page-is at c.put_text.ensures))
      | else-not-is_bad w ↦
          wrote_as (record_bad c.args.number c.args.said c.args.s.now (flag c.is_bad.ensures w.if-not-is_bad.false))
          (joined line (rw w.page-is at c.put_text.ensures))
    ]
