-- SPDX-License-Identifier: Apache-2.0
-- The places so far are written.
use Rattle.picture_numbers.specs.Numbers.{spaced, below}
use Rattle.picture_numbers.specs.Wrote.{Wrote}
use Rattle.picture.proofs.put_list.Given as goal

abbrev pub invariant-loop-place : goal.invariant-loop-place
invariant-loop-place g l = Wrote l.fn.page (spaced (below g.T.Place.stand l.place-index l.place-items)) l.page
