-- SPDX-License-Identifier: Apache-2.0
-- `buckets_of` meets its contract: one place more. Assumes nothing.
use native.Mathlib.Omega.{arith}
use mathlib.Core.Path.{◌∙◌}
use lib.ListN.{length-set}
use Rattle.key.specs.Bucket.{bucket_of}
use Rattle.batch.specs.Parts.{asked_at}
use Rattle.batch.proofs.Places.{set_next}
use Rattle.batch.proofs.buckets_of.Goals as goal

pub loop-place-preserved : goal.loop-place-preserved
loop-place-preserved c =
    let bucket = c.loop-place.bucket in
    let place = c.loop-place.place in
    record {
      long = length-set bucket place c.bucket.result ∙ c.loop-place.invariant.long;
      buckets = set_next bucket place c.bucket.result 0 (λ p. bucket_of (asked_at c.args.keys.now p) c.args.buckets) (omega arith) c.loop-place.invariant.buckets c.bucket.ensures;
    }
