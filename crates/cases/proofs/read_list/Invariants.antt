-- SPDX-License-Identifier: Apache-2.0
-- The place reached is not past the farthest.
use Prim.Native.Nat.{◌≤◌}
use Rattle.cases.proofs.read_list.Given as goal

abbrev pub invariant-loop-place : goal.invariant-loop-place
invariant-loop-place g l = l.at ≤ 1048576
