-- SPDX-License-Identifier: Apache-2.0
-- `remake::drop_oldest` meets its contract: what is left to do is in the rounds left, and the table keeps its capacity, sound if it was. Assumes nothing.
use Prim.Native.Nat.{ℕ, ◌-◌}
use mathlib.Core.Path.{◌≡◌}
use mathlib.Core.Bool.{true}
use mathlib.Core.List.{List}
use Rattle.state.specs.Fresh.{sound}
use Rattle.maintenance_resize.specs.Move.{moving_of, drop_oldest}
use Rattle.maintenance_resize.proofs.remake.drop_oldest.Given as goal

abbrev pub invariant-loop : goal.invariant-loop
invariant-loop l =
    ((list : List ℕ) → drop_oldest (257 - l.counter) (moving_of l.old l.new list) ≡ drop_oldest 257 (moving_of l.initial.old l.new list)) ×
    (l.old.capacity ≡ l.initial.old.capacity) ×
    (sound l.initial.old ≡ true → sound l.old ≡ true)
