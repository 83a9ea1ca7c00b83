-- SPDX-License-Identifier: Apache-2.0
-- The rounds of reclaim: at their end, and one round on. Assumes nothing.
use Prim.Native.Nat.{ℕ, ◌+◌, ◌-◌, ◌≤◌, ◌<◌}
use mathlib.Core.Path.{◌≡◌}
use mathlib.Core.List.{List}
use lib.ListN.{set}
use Rattle.basics.specs.Try.{ok, ◌>>=◌}
use Rattle.basics.proofs.Tests.{left_suc, left_none}
use Rattle.state.specs.declared.State.{State}
use Rattle.state.specs.Victim.{victim}
use Rattle.state.specs.Remove.{remove_clean}
use Rattle.maintenance_reclaim.specs.Reclaim.{or_end, reclaim_from}
use Rattle.maintenance_reclaim.specs.Parts.{taken}

module _ (k i : ℕ) (pins : List ℕ) (t : State) (slots : List ℕ) where
  pub rounds_end : k ≤ i → reclaim_from (k - i) pins (taken t i slots) ≡ ok (taken t i slots)
  unfolding reclaim_from
  rounds_end l = rw (left_none k i l)

  pub round_step : i < k → reclaim_from (k - i) pins (taken t i slots)
      ≡ (victim t.capacity t.eviction t.clean pins
      >>= λ at. or_end (taken t i slots) at (λ slot. remove_clean t slot >>= (λ u. reclaim_from (k - (i + 1)) pins (taken u (i + 1) (set slots i slot)))))
  unfolding reclaim_from
  round_step l = rw (left_suc k i l)
