-- SPDX-License-Identifier: Apache-2.0
-- `dropped` meets its contract. Assumes nothing.
use Rattle.std.proofs.Common.{rules, tests, eqb, ◌&&◌, sym, ◌∙◌}
use Rattle.std.proofs.lemmas.Iterator.{YieldsList-from_slice, YieldsList-from_zip}
use Rattle.std.proofs.lemmas.Iterator.Consumers.{YieldsList-from_filter, count_from_yields_List}
use Rattle.basics.specs.Numbers.{NONE}
use Rattle.maintenance_resize.proofs.Costs.{dropped_all}
use Rattle.maintenance_resize.proofs.dropped.Goals as goal

pub returns : goal.returns
returns c =
    count_from_yields_List c.filter.result _ c.count.ensures.ran
    (YieldsList-from_filter _ (λ p. eqb p.0.kind 2 && eqb p.1 NONE)
    (YieldsList-from_zip (YieldsList-from_slice c.args.t.now.slots cc) (YieldsList-from_slice c.args.list.now cc)) c.filter.ensures.closure (λ x b q k. search (rules, tests)))
    ∙ sym (dropped_all c.args.t.now c.args.list.now c.requires.0 (search rules) c.requires.1)
