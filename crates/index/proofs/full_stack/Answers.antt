-- SPDX-License-Identifier: Apache-2.0
-- `index::full_stack` meets its contract: one place more is filled in each turn. Assumes nothing.
use Prim.Native.Nat.{◌-◌, ◌<◌}
use mathlib.Core.Path.{◌≡◌, refl, ◌∙◌, ap}
use native.Mathlib.Omega.{arith}
use lib.ListN.{set}
use Rattle.basics.proofs.Fills.{down_turn, down_end}
use Rattle.index.proofs.full_stack.Goals as goal

pub loop-i-preserved : goal.loop-i-preserved
loop-i-preserved c = ap (λ l. set l c.loop-i.i (c.args.capacity - 1 - c.loop-i.i)) c.loop-i.invariant ∙ (let below : c.loop-i.i < c.args.capacity = omega arith in down_turn 256 _ _ _ below c.requires refl)

pub returns : goal.returns
returns c = let last : c.loop-i.i ≡ c.args.capacity = omega arith in c.loop-i.invariant ∙ rw last (down_end 256 c.args.capacity)
