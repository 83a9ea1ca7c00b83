-- SPDX-License-Identifier: Apache-2.0
-- `EvictionHeap::victim` meets its contract: the loop searches from a place on in the places left. Assumes nothing.
use Prim.Native.Nat.{◌-◌}
use mathlib.Core.Path.{◌≡◌}
use Rattle.eviction.specs.Victim.{victim_from, victim_of}
use Rattle.eviction.proofs.EvictionHeap.victim.Given as goal

abbrev pub invariant-loop-entry : goal.invariant-loop-entry
invariant-loop-entry l = victim_from (l.places - l.entry-index) l.capacity l.self l.pins l.entry-index ≡ victim_of l.places l.capacity l.self l.pins
