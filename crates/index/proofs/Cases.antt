-- SPDX-License-Identifier: Apache-2.0
-- The test of the sizes tells the sizes, and the bucket count of a capacity fits the heads. Assumes nothing.
use Prim.Native.Nat.{ℕ, ◌≤◌}
use mathlib.Core.Path.{◌≡◌, refl}
use mathlib.Core.Bool.{true, ◌&&◌}
use lib.Dec.{leb, ltb}
use native.Mathlib.Omega.{arith}
use borrow.Author.Tests.{ltb-true, leb-true}
use Rattle.basics.specs.Try.{Try, ok, refuse, ◌>>◌}
use Rattle.basics.specs.Answers.{Fine, done}
use Rattle.basics.specs.Capacity.{need_capacity}
use Rattle.basics.proofs.Capacities.{capacity_fits}
use Rattle.basics.proofs.Tests.{and_left, and_right}
use Rattle.key.specs.Bucket.{count_for}
use Rattle.key.proofs.Least.{few_buckets}
use Rattle.index.specs.Chain.{sizes}
use Rattle.index.specs.Sizes.{Sized}

pub has_sizes : {c buckets n : ℕ} → sizes c buckets n ≡ true → Sized c buckets n
unfolding sizes
has_sizes {c} {buckets} {n} e =
    let x = leb c 256 in
    let y = ltb 0 buckets in
    let z = leb buckets 512 in
    let w = leb n c in
    let xyz = and_left (x && y && z) w e in
    let xy = and_left (x && y) z xyz in
    record {
      small = leb-true _ _ (and_left x y xy);
      some = ltb-true _ _ (and_right x y xy);
      most = leb-true _ _ (and_right (x && y) z xyz);
      stack = leb-true _ _ (and_right (x && y && z) w e);
    }

past : (x : Try Fine) {n b : ℕ} → ok b ≡ (x >> ok n) → (x ≡ ok done) × (b ≡ n)
past (ok done) e = (refl, cc)
past (refuse k) e = cc

-- a capacity that has a bucket count
pub counted : {c b : ℕ} → ok b ≡ count_for c → (c ≤ 256) × (b ≤ 512)
unfolding count_for
counted {c} {b} e =
    let p = past (need_capacity c) e in
    let f = capacity_fits c p.0 in
    (f.1, omega (arith, few_buckets c f.1))
