-- SPDX-License-Identifier: Apache-2.0
-- `remake::restore_rest` meets its contract: what is left to do, and to try, is from the slot on. Assumes nothing.
use Prim.Native.Nat.{ℕ, ◌+◌, ◌-◌, ◌≤◌}
use mathlib.Core.Path.{◌≡◌}
use mathlib.Core.List.{List}
use Rattle.basics.specs.Lists.{each_slot}
use Rattle.maintenance_resize.specs.Move.{moving_of, restore_rest}
use Rattle.maintenance_resize.specs.Cost.{tries_rest}
use Rattle.maintenance_resize.proofs.remake.restore_rest.Given as goal

abbrev pub invariant-loop-entry : goal.invariant-loop-entry
invariant-loop-entry l =
    ((list : List ℕ) → each_slot restore_rest (l.old.capacity - l.entry-index) l.entry-index (moving_of l.old l.new list) ≡ each_slot restore_rest l.old.capacity 0 (moving_of l.old l.initial.new list)) ×
    ((list : List ℕ) → l.tries + tries_rest (l.old.capacity - l.entry-index) l.entry-index (moving_of l.old l.new list) ≡ l.initial.tries + tries_rest l.old.capacity 0 (moving_of l.old l.initial.new list)) ×
    (l.tries ≤ l.initial.tries + l.entry-index)
