-- SPDX-License-Identifier: Apache-2.0
-- `trace::put_standing` meets its contract. Assumes nothing.
use mathlib.Core.Path.{ap}
use Rattle.picture.proofs.Laws.{below_words}
use Rattle.picture_numbers.specs.Numbers.{spaced}
use Rattle.picture_numbers.proofs.Laws.{wrote_as, numbers_joined}
use Rattle.trace.specs.Record.{standing_numbers}
use Rattle.trace.proofs.put_standing.Goals as goal

pub returns : goal.returns
unfolding standing_numbers
returns c =
    let s = c.args.s.now in
    let pins = wrote_as (ap spaced (below_words s.state.capacity s.pins)) c.put_list.ensures in
    numbers_joined _ _ (numbers_joined _ _ (numbers_joined _ _ c.put_table.ensures pins) c.put_past.ensures) c.put_list_past.ensures
