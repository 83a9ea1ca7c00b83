-- SPDX-License-Identifier: Apache-2.0
-- `remake::move_rest` meets its contract: what is left to do is from the slot on, and the old table keeps its capacity. Assumes nothing.
use Prim.Native.Nat.{◌-◌}
use mathlib.Core.Path.{◌≡◌}
use lib.ListN.{take}
use Rattle.basics.specs.Lists.{each_slot}
use Rattle.maintenance_resize.specs.Move.{moving_of, move_rest}
use Rattle.maintenance_resize.proofs.remake.move_rest.Given as goal

abbrev pub invariant-loop-slot : goal.invariant-loop-slot
invariant-loop-slot l =
    (each_slot move_rest (l.capacity - l.slot) l.slot (moving_of l.old l.new (take l.capacity l.list)) ≡ each_slot move_rest l.capacity 0 (moving_of l.initial.old l.new (take l.capacity l.initial.list))) ×
    (l.old.capacity ≡ l.capacity)
