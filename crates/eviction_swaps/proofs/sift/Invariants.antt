-- SPDX-License-Identifier: Apache-2.0
-- `eviction_swaps::sift` meets its contract: the loop sifts on from the place p in the steps left. Assumes nothing.
use mathlib.Core.Path.{◌≡◌}
use Prim.Native.Nat.{◌-◌, ◌<◌}
use Rattle.eviction.specs.Sift.{sift_from}
use Rattle.eviction_swaps.specs.Step.{Follows}
use Rattle.eviction_swaps.proofs.sift.Given as goal

abbrev pub invariant-loop : goal.invariant-loop
invariant-loop g l =
    ((rule : _) → Follows l.initial.heap.len rule (λ h p r. g.F.Fn.post l.step (h, (p, tt)) r)
    → sift_from rule (256 - l.counter) l.capacity l.heap l.p ≡ sift_from rule 256 l.capacity l.initial.heap l.start)
    × ((l.p < 256) × (l.heap.len ≡ l.initial.heap.len))
