-- SPDX-License-Identifier: Apache-2.0
-- `cost_tested` meets its contract. Assumes nothing.
use Rattle.std.proofs.Common.{rules}
use Rattle.maintenance_resize.proofs.Costs.{cost_told}
use Rattle.maintenance_resize.proofs.cost_tested.Goals as goal

pub returns-in-Err : goal.returns-in-Err
returns-in-Err c =
    let e = cost_told c.args.t.now c.args.asked c.args.pins.now (rw c.min.ensures at c.resize_tested-answer.ensures.value) in
    search rules

pub returns-in-Ok-Resized : goal.returns-in-Ok-Resized
returns-in-Ok-Resized c =
    let e = cost_told c.args.t.now c.args.asked c.args.pins.now (rw c.min.ensures at c.resize_tested-answer.ensures.value) in
    search rules

pub returns-in-Ok-Unchanged : goal.returns-in-Ok-Unchanged
returns-in-Ok-Unchanged c =
    let e = cost_told c.args.t.now c.args.asked c.args.pins.now (rw c.min.ensures at c.resize_tested-answer.ensures.value) in
    search rules
