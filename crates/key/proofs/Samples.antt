-- SPDX-License-Identifier: Apache-2.0
-- The bucket rule at single keys, computed: bits that come round, the sum at its end, and that file alone is turned. Assumes nothing.
use Rattle.std.proofs.Common.{◌≡◌, ℕ, ◌-◌, ◌^◌, [], ◌∷◌, map, refl}
use Rattle.basics.specs.Numbers.{MAX}
use Rattle.key.specs.declared.CacheKey.{CacheKey}
use Rattle.key.specs.Bucket.{rotated, sum_of, bucket_of}

abbrev key : ℕ → ℕ → ℕ → CacheKey
key file kind index = record { file = file; kind = kind; index = index }

-- files at the ends: from 2^59 on, bits come round
rotations : map rotated (0 ∷ 1 ∷ (2 ^ 59 - 1) ∷ 2 ^ 59 ∷ 2 ^ 63 ∷ MAX ∷ []) ≡ 0 ∷ 32 ∷ (2 ^ 64 - 32) ∷ 1 ∷ 16 ∷ MAX ∷ []
unfolding rotated
rotations = refl

-- 1 in file, in kind and in index
parts : map sum_of (key 1 0 0 ∷ key 0 1 0 ∷ key 0 0 1 ∷ []) ≡ 32 ∷ 1 ∷ 1 ∷ []
unfolding rotated sum_of
parts = refl

-- every part at its end, among 512 buckets: the sum wraps
ends : bucket_of (key MAX 255 MAX) 512 ≡ 253
unfolding rotated sum_of bucket_of
ends = refl
