-- SPDX-License-Identifier: Apache-2.0
-- `pins::pins_clean` meets its contract. Assumes nothing.
use Rattle.std.proofs.Common.{rules, tests, eqb, ◌||◌, ◌∙◌}
use Rattle.std.proofs.lemmas.Iterator.{YieldsList-from_slice, YieldsList-from_zip}
use Rattle.std.proofs.lemmas.Iterator.Search.{all_from_yields_List}
use Rattle.maintenance_restore.proofs.Cases.{clean_all}
use Rattle.maintenance_restore.proofs.pins.pins_clean.Goals as goal

pub returns : goal.returns
returns c =
    all_from_yields_List (λ p. eqb p.1 0 || eqb p.0.kind 2) c.all.new.self _ _ c.all.ensures.ran
    (YieldsList-from_zip (YieldsList-from_slice c.args.t.now.slots cc) (YieldsList-from_slice c.args.pins.now cc)) (λ x b q k. search (rules, tests))
    ∙ clean_all c.args.t.now c.args.pins.now c.args.t.now.capacity c.requires.0 (search rules) c.requires.1
