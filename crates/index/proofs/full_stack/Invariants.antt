-- SPDX-License-Identifier: Apache-2.0
-- `index::full_stack` meets its contract: one place more is filled in each turn. Assumes nothing.
use mathlib.Core.Path.{◌≡◌}
use Rattle.basics.specs.Lists.{down}
use Rattle.basics.proofs.Fills.{filled}
use Rattle.index.proofs.full_stack.Given as goal

abbrev pub invariant-loop-i : goal.invariant-loop-i
invariant-loop-i l = l.free ≡ filled 256 (down l.capacity) l.i
