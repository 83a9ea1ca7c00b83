-- SPDX-License-Identifier: Apache-2.0
-- The call that ends a load, as a function that its step is given: the rule that it follows.
use Rattle.std.specs.Prelude.{◌≡◌}
use Rattle.basics.specs.Answers.{Fine}
use Rattle.state.specs.declared.State.{State}
use Rattle.state.specs.declared.LoadToken.{LoadToken}
use Rattle.state.specs.declared.Outcome.{Outcome}
use Rattle.state.specs.Answers.{After, finished_after}

abbrev pub Follows : (State → LoadToken → After Fine) → (State → LoadToken → Outcome Unit → Type 0) → Type 0
Follows rule post = (t : State) (k : LoadToken) (r : Outcome Unit) → post t k r → finished_after r ≡ rule t k
