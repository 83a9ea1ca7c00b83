-- SPDX-License-Identifier: Apache-2.0
-- `places_of` meets its contract: the places behind are marked by their buckets, and no other is. Assumes nothing.
use Prim.Native.Nat.{ℕ, ◌<◌, ◌≤◌}
use mathlib.Core.Path.{◌≡◌}
use mathlib.Core.Bool.{false}
use lib.Dec.{eqb}
use lib.ListN.{length, get_or}
use Rattle.batch.specs.Parts.{mark_at}
use Rattle.batch.proofs.places_of.Given as goal

abbrev pub invariant-loop-place : goal.invariant-loop-place
invariant-loop-place l = record {
  long : length l.sought ≡ 64;
  marks : (p : ℕ) → l.first ≤ p → p < l.place → mark_at l.sought p ≡ eqb (get_or l.buckets p 0) (get_or l.buckets l.first 0);
  before : (p : ℕ) → p < l.first → p < 64 → mark_at l.sought p ≡ false;
  reached : l.end ≤ l.place;
  behind : (p : ℕ) → l.end ≤ p → p < 64 → mark_at l.sought p ≡ false;
}
