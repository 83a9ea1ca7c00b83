-- SPDX-License-Identifier: Apache-2.0
-- `walks` meets its contract: the buckets of the keys behind are walked, and their keys answered. Assumes nothing.
use Prim.Native.Nat.{ℕ, ◌*◌, ◌<◌, ◌≤◌}
use mathlib.Core.Path.{◌≡◌}
use lib.ListN.{get_or, take}
use Rattle.basics.specs.Try.{ok}
use Rattle.index.specs.Chain.{CHAIN}
use Rattle.batch.specs.Batch.{total}
use Rattle.batch.specs.Parts.{walks_to, filled_to}
use Rattle.batch.proofs.walks.Given as goal

abbrev pub invariant-loop-place : goal.invariant-loop-place
invariant-loop-place l = record {
  bound : l.visited ≤ CHAIN * l.place;
  visits : total (walks_to l.t (take l.count l.keys) l.buckets l.place) l.t.index.buckets ≡ ok l.visited;
  slots : (p : ℕ) → p < 64 → get_or l.slots p 0 ≡ filled_to l.t l.keys l.buckets l.count l.place p;
}
