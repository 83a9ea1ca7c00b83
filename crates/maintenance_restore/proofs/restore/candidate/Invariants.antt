-- SPDX-License-Identifier: Apache-2.0
-- `restore::candidate` meets its contract: what is left to do, and to try, is from the size on, in the rounds left. Assumes nothing.
use Prim.Native.Nat.{◌+◌, ◌-◌, ◌*◌, ◌≤◌, ◌<◌}
use mathlib.Core.Path.{◌≡◌}
use Rattle.maintenance_restore.specs.Restore.{candidate}
use Rattle.maintenance_restore.specs.Tries.{tries_candidate}
use Rattle.maintenance_restore.proofs.restore.candidate.Given as goal

abbrev pub invariant-loop : goal.invariant-loop
invariant-loop l =
    (candidate (9 - l.counter) l.old l.pins l.shrinking l.size ≡ candidate 9 l.old l.pins l.shrinking l.initial.size) ×
    (l.tries + tries_candidate (9 - l.counter) l.old l.pins l.shrinking l.size ≡ tries_candidate 9 l.old l.pins l.shrinking l.initial.size) ×
    (l.tries ≤ l.counter * 256) × (0 < l.size) × (l.size ≤ 256)
