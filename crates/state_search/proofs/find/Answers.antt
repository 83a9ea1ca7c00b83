-- SPDX-License-Identifier: Apache-2.0
-- `find` meets its contract: it walks by the rule of its test. Assumes nothing.
use mathlib.Core.Path.{◌∙◌}
use Rattle.state_search.specs.Sought.{find_test}
use Rattle.state_search.proofs.Cases.{find_walk}
use Rattle.state_search.proofs.find.Goals as goal

pub returns-clause-slot : goal.returns-clause-slot
returns-clause-slot c = c.walk.ensures.slot (find_test c.args.key) (λ s r p. p.1) ∙ find_walk c.args.t.now c.args.key
