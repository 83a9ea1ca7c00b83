-- SPDX-License-Identifier: Apache-2.0
-- `maintenance_reclaim::reclaim_rounds` meets its contract: what is left to do is in the rounds left. Assumes nothing.
use Prim.Native.Nat.{◌-◌}
use mathlib.Core.Path.{◌≡◌}
use Rattle.maintenance_reclaim.specs.Parts.{taken}
use Rattle.maintenance_reclaim.specs.Reclaim.{reclaim_from}
use Rattle.maintenance_reclaim.proofs.reclaim_rounds.Given as goal

abbrev pub invariant-loop-count : goal.invariant-loop-count
invariant-loop-count l =
    (reclaim_from (l.rounds - l.count) l.pins (taken l.t l.count l.slots) ≡ reclaim_from l.rounds l.pins (taken l.initial.t 0 l.initial.slots))
