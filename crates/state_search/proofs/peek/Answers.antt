-- SPDX-License-Identifier: Apache-2.0
-- `peek` meets its contract: it walks by the rule of its test. Assumes nothing.
use mathlib.Core.Path.{◌∙◌}
use Rattle.state_search.specs.Sought.{peek_test}
use Rattle.state_search.proofs.Cases.{peek_walk}
use Rattle.state_search.proofs.peek.Goals as goal

pub returns : goal.returns
returns c = c.walk.ensures.slot (peek_test c.args.key) (λ s r p. p.1) ∙ peek_walk c.args.t.now c.args.key
