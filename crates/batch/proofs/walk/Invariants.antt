-- SPDX-License-Identifier: Apache-2.0
-- `walk` meets its contract: the slots visited so far and those of the rest are those of the whole walk, and each place has its answer, or the rest of
-- the walk gives it. Assumes nothing.
use Rattle.std.proofs.Common.{if◌then◌else◌}
use Prim.Native.Nat.{ℕ, ◌-◌, ◌<◌, ◌≤◌}
use mathlib.Core.Path.{◌≡◌}
use mathlib.Core.Bool.{true}
use lib.ListN.{get_or}
use Rattle.basics.specs.Numbers.{NONE}
use Rattle.index.specs.Chain.{CHAIN, head_of, length_of}
use Rattle.batch.specs.Batch.{visit_from, slot_from}
use Rattle.batch.specs.Parts.{marked, Between, mark_at, asked_at, visited_more}
use Rattle.batch.proofs.walk.Given as goal

abbrev pub invariant-loop-sought : goal.invariant-loop-sought
invariant-loop-sought l = record {
  bound : l.visited ≤ CHAIN;
  visits : visit_from CHAIN l.t (length_of l.t.index (asked_at l.keys l.first)) (marked l.fn.sought l.keys) (head_of l.t.index (asked_at l.keys l.first))
      ≡ visited_more l.visited (visit_from (CHAIN - l.visited) l.t (length_of l.t.index (asked_at l.keys l.first)) (marked l.sought l.keys) l.slot);
  within : Between l.sought l.first l.end;
  unanswered : (p : ℕ) → p < 64 → mark_at l.sought p ≡ true → get_or l.slots p 0 ≡ NONE;
  places : (p : ℕ) → p < 64
      → (if mark_at l.fn.sought p then slot_from CHAIN l.t (asked_at l.keys p) (head_of l.t.index (asked_at l.keys l.first)) else get_or l.initial.slots p 0)
      ≡ (if mark_at l.sought p then slot_from (CHAIN - l.visited) l.t (asked_at l.keys p) l.slot else get_or l.slots p 0);
}

abbrev pub decreases-loop-sought : goal.decreases-loop-sought
decreases-loop-sought l = CHAIN - l.visited
