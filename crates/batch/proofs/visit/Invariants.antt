-- SPDX-License-Identifier: Apache-2.0
-- `visit` meets its contract: the places behind are done, the others are as they were. Assumes nothing.
use Prim.Native.Nat.{ℕ, ◌<◌, ◌≤◌}
use mathlib.Core.Path.{◌≡◌}
use lib.ListN.{get_or}
use Rattle.batch.specs.Parts.{mark_at, asked_at, still_sought, answered}
use Rattle.batch.proofs.visit.Given as goal

abbrev pub invariant-loop-place : goal.invariant-loop-place
invariant-loop-place l = record {
  marks : (p : ℕ) → l.first ≤ p → p < l.place → mark_at l.sought p ≡ still_sought l.held (mark_at l.initial.sought p) (asked_at l.keys p);
  slots : (p : ℕ) → l.first ≤ p → p < l.place
      → get_or l.slots p 0 ≡ answered l.held l.number (mark_at l.initial.sought p) (asked_at l.keys p) (get_or l.initial.slots p 0);
  before_marks : (p : ℕ) → p < l.first → mark_at l.sought p ≡ mark_at l.initial.sought p;
  before_slots : (p : ℕ) → p < l.first → get_or l.slots p 0 ≡ get_or l.initial.slots p 0;
  same_marks : (p : ℕ) → l.place ≤ p → mark_at l.sought p ≡ mark_at l.initial.sought p;
  same_slots : (p : ℕ) → l.place ≤ p → get_or l.slots p 0 ≡ get_or l.initial.slots p 0;
}
