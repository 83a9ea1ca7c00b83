-- SPDX-License-Identifier: Apache-2.0
-- A key's bucket is one of the buckets; keys of one bucket stay together among fewer; files numbered in a row do not meet. Assumes nothing.
use Rattle.std.proofs.Common.{◌≡◌, ℕ, ◌+◌, ◌*◌, ◌/◌, ◌%◌, ◌^◌, ◌<◌, sym, refl, ap, ◌∙◌, mod-lt, mod-eq_of_lt, arith}
use native.Mathlib.Nat.{div-eq_of_lt, mod-mod_of_dvd}
use Rattle.key.specs.declared.CacheKey.{CacheKey}
use Rattle.key.specs.Bucket.{rotated, sum_of, bucket_of}

pub bucket_low : (key : CacheKey) (n : ℕ) → 0 < n → bucket_of key n < n
unfolding bucket_of
bucket_low key n h = mod-lt _ h

-- keys of one bucket are of one bucket among fewer, where the counts divide each other
pub bucket_coarse : (a b : CacheKey) (m n j : ℕ) → n ≡ m * j → bucket_of a n ≡ bucket_of b n → bucket_of a m ≡ bucket_of b m
unfolding bucket_of
bucket_coarse a b m n j d e =
    sym (mod-mod_of_dvd m (sum_of a) (∣ (j, d) ∣₁)) ∙ ap (λ (z : ℕ). z % m) e ∙ mod-mod_of_dvd m (sum_of b) (∣ (j, d) ∣₁)

-- below 2^59 no bit comes round
low_file : (file : ℕ) → file < 2 ^ 59 → rotated file ≡ file * 2 ^ 5
unfolding rotated
low_file file h =
    let low : (file * 2 ^ 5) % 2 ^ 64 ≡ file * 2 ^ 5 = mod-eq_of_lt (omega arith) in
    let none : file / 2 ^ 59 ≡ 0 = div-eq_of_lt h in
    rw (low, none) (omega arith)

low_sum : (file kind index : ℕ) → file < 2 ^ 59 → bucket_of (record { file = file; kind = kind; index = index }) 64 ≡ (file * 2 ^ 5 + kind + index) % 64
unfolding sum_of bucket_of
low_sum file kind index h = rw (low_file file h) (mod-mod_of_dvd 64 (file * 2 ^ 5 + kind + index) (∣ (2 ^ 58, refl) ∣₁))

-- Document 02, request 3: "Reel files get neighbouring numbers and their pages land in the same chains." Among 64 buckets or more the first 32 pages of a
-- file and those of the next one no longer do
pub pages_apart : (file kind i j n m : ℕ) → file + 1 < 2 ^ 59 → i < 32 → j < 32 → n ≡ 64 * m
    → bucket_of (record { file = file; kind = kind; index = i }) n ≡ bucket_of (record { file = file + 1; kind = kind; index = j }) n → ⊥
pages_apart file kind i j n m h hi hj d e =
    let a : CacheKey = record { file = file; kind = kind; index = i } in
    let b : CacheKey = record { file = file + 1; kind = kind; index = j } in
    let same : (file * 2 ^ 5 + kind + i) % 64 ≡ ((file + 1) * 2 ^ 5 + kind + j) % 64
    = sym (low_sum file kind i (omega arith)) ∙ bucket_coarse a b 64 n m d e ∙ low_sum (file + 1) kind j h in
    omega (arith, hi, hj, same)
