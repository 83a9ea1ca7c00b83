-- SPDX-License-Identifier: Apache-2.0
-- `buckets_of` meets its contract: the places behind have their buckets. Assumes nothing.
use Prim.Native.Nat.{ℕ, ◌<◌}
use mathlib.Core.Path.{◌≡◌}
use lib.ListN.{length, get_or}
use Rattle.key.specs.Bucket.{bucket_of}
use Rattle.batch.specs.Parts.{asked_at}
use Rattle.batch.proofs.buckets_of.Given as goal

abbrev pub invariant-loop-place : goal.invariant-loop-place
invariant-loop-place l = record {
  long : length l.bucket ≡ 64;
  buckets : (p : ℕ) → p < l.place → get_or l.bucket p 0 ≡ bucket_of (asked_at l.keys p) l.buckets;
}
