-- SPDX-License-Identifier: Apache-2.0
-- The rule's powers are least powers of two, half of a bucket count is one, a bucket count comes from leading zeros, and bucket counts divide each other.
-- Assumes nothing.
use Rattle.std.proofs.Common.{◌≡◌, ℕ, zero, suc, ◌+◌, ◌-◌, ◌*◌, ◌^◌, ◌<◌, ◌≤◌, leb, sym, refl, ap, ◌∙◌, pow-suc, zero-add, arith, pow_pos, pow_mono, pow-add, leb-false, leb-true}
use lib.Count.{count_leading_zeros, leading_length}
use lib.Pow.{pow-lt}
use Rattle.basics.specs.Numbers.{doubled, power_over}
use Rattle.basics.proofs.Tests.{yes!, no!, is}
use Rattle.key.specs.Bucket.{bucket_count}
use Rattle.key.specs.Least.{LeastPower}

-- exponents are in the order of their powers
pub exponents : (i j : ℕ) → 2 ^ i ≤ 2 ^ j → i ≤ j
exponents i j h =
    elim (is (leb i j)) [
      | yes! e ↦ leb-true i j e
      | no! e ↦ let z : 2 ^ j < 2 ^ i = pow-lt (leb-false i j e) in absurd (omega arith)
    ]

strict : (i j : ℕ) → 2 ^ i < 2 ^ j → 2 ^ suc i ≤ 2 ^ j
strict i j h =
    elim (is (leb j i)) [
      | yes! e ↦ let z : 2 ^ j ≤ 2 ^ i = pow_mono (leb-true j i e) in absurd (omega arith)
      | no! e ↦ pow_mono (leb-false j i e)
    ]

-- doubling from a power that is no greater than any power that will do
doubled_least : (left m n : ℕ) → n ≤ 2 ^ (left + m) → ((j : ℕ) → n ≤ 2 ^ j → 2 ^ m ≤ 2 ^ j) → LeastPower n (doubled left n (2 ^ m))
unfolding doubled
doubled_least zero m n h l = record { power = (m, refl); over = rw zero-add at h; least = l }
doubled_least (suc left) m n h l =
    elim (is (leb n (2 ^ m))) [
      | yes! e ↦ rw e (record { power = (m, refl); over = leb-true n (2 ^ m) e; least = l })
      | no! e ↦
          let below : 2 ^ m < n = leb-false n (2 ^ m) e in
          let sum : left + suc m ≡ suc left + m = omega arith in
          rw (e, ← pow-suc 2 m) (doubled_least left (suc m) n (rw sum h) (λ j a. strict m j (omega arith)))
    ]

-- "the least power of two not below" n: the rule's steps reach so far
pub power_least : (n : ℕ) → n ≤ 2 ^ 64 → LeastPower n (power_over n)
unfolding power_over
power_least n h = doubled_least 64 0 n h (λ j a. pow_pos j)

-- there is no other
pub least_one : {n p q : ℕ} → LeastPower n p → LeastPower n q → p ≡ q
least_one {n} {p} {q} a b =
    let x : p ≤ q = rw b.power.1 (a.least b.power.0 (rw b.power.1 at b.over)) in
    let y : q ≤ p = rw a.power.1 (b.least a.power.0 (rw a.power.1 at a.over)) in
    omega arith

-- twice the number, twice the power
twice : {c p : ℕ} → 0 < c → LeastPower c p → LeastPower (2 * c) (2 * p)
twice {c} {p} pos l =
    record {
      power = (suc l.power.0, omega (arith, l.power.1));
      over = omega (arith, l.over);
      least = λ k h. half k h;
    }
  where
    half : (k : ℕ) → 2 * c ≤ 2 ^ k → 2 * p ≤ 2 ^ k
    half zero h = absurd (omega arith)
    half (suc k) h = omega (arith, l.least k (omega arith))

-- "The bucket count is the least power of two not below twice the capacity"
pub count_least : (c : ℕ) → c ≤ 2 ^ 62 → LeastPower (2 * c) (bucket_count c)
unfolding bucket_count
count_least c h = power_least (2 * c) (omega arith)

-- "Half of it is the least power of two not below the capacity."
pub count_half : (c : ℕ) → 0 < c → c ≤ 2 ^ 62 → bucket_count c ≡ 2 * power_over c
count_half c pos h = least_one (count_least c h) (twice pos (power_least c (omega arith)))

-- the least power of two not below twice a number whose predecessor has m binary digits
digits_least : (c m : ℕ) → 0 < c → c - 1 < 2 ^ m → 2 ^ m ≤ 2 * (c - 1) + 1 → LeastPower (2 * c) (2 ^ suc m)
digits_least c m pos lo hi = record { power = (suc m, refl); over = omega (arith, pow-suc 2 m); least = λ k h. strict m k (omega arith) }

-- Document 02, request 2: "The bucket count shall come from the number of leading zeros of the capacity's predecessor"
pub count_zeros : (c : ℕ) → 0 < c → c ≤ 2 ^ 62 → bucket_count c ≡ 2 ^ (65 - count_leading_zeros 64 (c - 1))
count_zeros c pos h =
    let len = leading_length 64 (c - 1) (omega arith) in
    let one_more : 65 - count_leading_zeros 64 (c - 1) ≡ suc len.0 = omega (arith, len.1) in
    rw one_more (least_one (count_least c h) (digits_least c len.0 pos len.2 len.3))

-- a table has some buckets, and no more than its array holds
pub some_bucket : (c : ℕ) → c ≤ 2 ^ 62 → 0 < bucket_count c
some_bucket c h = let l = count_least c h in rw l.power.1 (pow_pos l.power.0)

pub few_buckets : (c : ℕ) → c ≤ 256 → bucket_count c ≤ 512
few_buckets c h = (count_least c (omega arith)).least 9 (omega arith)

-- the bucket count of a capacity divides that of a greater one
pub counts_divide : (c d : ℕ) → c ≤ d → d ≤ 2 ^ 62 → (m : ℕ) × (bucket_count d ≡ bucket_count c * m)
counts_divide c d h hd =
    let p = count_least c (omega arith) in
    let q = count_least d hd in
    let i : ℕ = p.power.0 in
    let j : ℕ = q.power.0 in
    let le : 2 ^ i ≤ 2 ^ j = rw p.power.1 at (p.least j (omega (arith, q.over, q.power.1))) in
    let sum : i + (j - i) ≡ j = omega (arith, exponents i j le) in
    (2 ^ (j - i), q.power.1 ∙ ap (λ (k : ℕ). 2 ^ k) (sym sum) ∙ pow-add 2 i (j - i) ∙ ap (λ (k : ℕ). k * 2 ^ (j - i)) (sym p.power.1))
