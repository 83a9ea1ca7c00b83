-- SPDX-License-Identifier: Apache-2.0
-- `picture_numbers::all_zero` meets its contract. Assumes nothing.
use Rattle.std.proofs.Common.{eqb, rules, tests, ◌∙◌}
use Rattle.std.proofs.lemmas.Iterator.{YieldsList-from_slice}
use Rattle.std.proofs.lemmas.Iterator.Search.{all_from_yields_List}
use Rattle.picture_numbers.proofs.Laws.{zero_all}
use Rattle.picture_numbers.proofs.all_zero.Goals as goal

pub returns : goal.returns
returns c =
    all_from_yields_List (λ n. eqb n 0) _ _ _ c.all.ensures.ran (YieldsList-from_slice c.args.numbers.now cc) (λ x b q k. search (rules, tests))
    ∙ zero_all c.args.numbers.now
