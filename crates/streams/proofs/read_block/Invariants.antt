-- SPDX-License-Identifier: Apache-2.0
-- What was read so far is within the block, and a turn that goes on has read at least a byte.
use Rattle.std.proofs.Common.{◌-◌, ◌≤◌, length}
use Rattle.streams.proofs.read_block.Given as goal

abbrev pub invariant-loop-count : goal.invariant-loop-count
invariant-loop-count g l = l.count ≤ length l.block

abbrev pub decreases-loop-count : goal.decreases-loop-count
decreases-loop-count g l = length l.initial.block - l.count
