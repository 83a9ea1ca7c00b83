-- SPDX-License-Identifier: Apache-2.0
-- `remake::leave_pinned` meets its contract: what is left to do is from the slot on, and the old table keeps its capacity, sound if it was. Assumes nothing.
use Prim.Native.Nat.{◌-◌}
use mathlib.Core.Path.{◌≡◌}
use mathlib.Core.Bool.{true}
use lib.ListN.{take}
use Rattle.basics.specs.Lists.{each_slot}
use Rattle.state.specs.Fresh.{sound}
use Rattle.maintenance_resize.specs.Move.{moving_of, leave_pinned}
use Rattle.maintenance_resize.proofs.remake.leave_pinned.Given as goal

abbrev pub invariant-loop-slot : goal.invariant-loop-slot
invariant-loop-slot l =
    (each_slot leave_pinned (l.capacity - l.slot) l.slot (moving_of l.old l.new (take l.capacity l.list)) ≡ each_slot leave_pinned l.capacity 0 (moving_of l.initial.old l.new (take l.capacity l.initial.list))) ×
    (l.old.capacity ≡ l.capacity) ×
    (sound l.initial.old ≡ true → sound l.old ≡ true)
