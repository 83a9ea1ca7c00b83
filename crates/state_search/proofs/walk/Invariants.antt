-- SPDX-License-Identifier: Apache-2.0
-- `walk` meets its contract: the rest of the walk answers what the whole walk does. Assumes nothing.
use Prim.Native.Nat.{◌-◌}
use mathlib.Core.Path.{◌≡◌}
use mathlib.Core.Bool.{Bool}
use Rattle.basics.specs.Try.{Try}
use Rattle.index.specs.Chain.{CHAIN}
use Rattle.state.specs.declared.Slot.{Slot}
use Rattle.state_search.specs.Sought.{Follows, walk_from, walk_key}
use Rattle.state_search.proofs.walk.Given as goal

abbrev pub invariant-loop-walked : goal.invariant-loop-walked
invariant-loop-walked g l = (rule : Slot → Try Bool) → Follows (goal.F-post g l.here) rule → walk_from rule (CHAIN - l.walked) l.t l.fn.key l.slot ≡ walk_key rule l.t l.fn.key
