-- SPDX-License-Identifier: Apache-2.0
-- `picture::put_list` meets its contract. Assumes nothing.
use native.Mathlib.Omega.{arith}
use mathlib.Core.Path.{ap}
use Rattle.picture_numbers.specs.Numbers.{spaced}
use Rattle.picture_numbers.proofs.Laws.{wrote_as}
use Rattle.picture.proofs.Laws.{below_start, below_more, below_end}
use Rattle.picture.proofs.put_list.Goals as goal

pub loop-place-init : goal.loop-place-init
loop-place-init g c = below_start g.T.Place.stand _ c.put_text.ensures

pub loop-place-preserved : goal.loop-place-preserved
loop-place-preserved g c =
    below_more g.T.Place.stand _ _ c.place-item.result (omega arith) c.place-item.is c.loop-place.invariant c.put.ensures

pub returns : goal.returns
returns g c =
    wrote_as (ap spaced (below_end g.T.Place.stand c.args.list.now c.args.count c.min-places.result c.loop-place.place-index (omega arith) (omega arith)))
    c.loop-place.invariant
