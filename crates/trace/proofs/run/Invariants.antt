-- SPDX-License-Identifier: Apache-2.0
-- The page is of the same list still.
use Rattle.picture_numbers.specs.Wrote.{SameList}
use Rattle.trace.proofs.run.Given as goal

abbrev pub invariant-loop-record : goal.invariant-loop-record
invariant-loop-record g l = SameList l.fn.page l.page
