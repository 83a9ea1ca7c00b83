-- SPDX-License-Identifier: Apache-2.0
-- Lookup by what `seek` gives, whose first test is its own. Assumes nothing.
use mathlib.Core.Path.{◌≡◌}
use Rattle.basics.specs.Try.{ok, ◌>>=◌}
use Rattle.basics.proofs.Tests.{yes!, no!, is}
use Rattle.key.specs.declared.CacheKey.{CacheKey}
use Rattle.state.specs.declared.State.{State}
use Rattle.state.specs.Answers.{told, unless_refused}
use Rattle.state.specs.Fresh.{sound}
use Rattle.state.specs.Find.{find_key, seek}
use Rattle.state.specs.Lookup.{found_seen, lookup}

pub lookup_seek : (t : State) (key : CacheKey) → lookup t key ≡ unless_refused t (seek t key >>= λ s. ok (told s.table (found_seen s.seen)))
unfolding lookup seek find_key
lookup_seek t key =
    elim (is (sound t)) [
      | yes! y ↦ rw y
      | no! y ↦ rw y
    ]
