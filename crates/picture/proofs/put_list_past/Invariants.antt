-- SPDX-License-Identifier: Apache-2.0
-- Their number and the places so far are written.
use mathlib.Core.Bool.{false}
use mathlib.Core.List.{◌∷◌}
use lib.ListN.{take}
use Rattle.picture_numbers.specs.Numbers.{spaced, told}
use Rattle.picture_numbers.specs.Wrote.{Wrote}
use Rattle.picture.proofs.put_list_past.Given as goal

abbrev pub invariant-loop-i : goal.invariant-loop-i
invariant-loop-i g l = Wrote l.fn.page (spaced (l.held ∷ told g.T.Place.stand false l.from (take l.i l.behind))) l.page
