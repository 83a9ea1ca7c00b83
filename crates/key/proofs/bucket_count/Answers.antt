-- SPDX-License-Identifier: Apache-2.0
-- `key::bucket_count` meets its contract: the shift is that of the law `count_zeros`, and loses no digit, since no table has more than 512 buckets.
-- Assumes nothing.
use Rattle.std.proofs.Common.{◌≡◌, ℕ, ◌-◌, ◌*◌, ◌%◌, ◌^◌, ◌<◌, ◌≤◌, Result, Ok, sym, ap, ◌∙◌, arith}
use lib.Count.{count_leading_zeros, leading_length}
use Rattle.basics.specs.declared.Refusal.{Refusal}
use Rattle.basics.specs.Try.{ok}
use Rattle.basics.specs.Answers.{done_answer}
use Rattle.basics.specs.Capacity.{need_capacity}
use Rattle.basics.proofs.Capacities.{capacity_fits}
use Rattle.key.specs.Bucket.{bucket_count, count_for}
use Rattle.key.proofs.Least.{exponents, count_zeros, few_buckets}
use Rattle.key.proofs.bucket_count.Goals as goal

-- what the check of the capacity told
fits : {c : ℕ} {d : Result Unit Refusal} {u : Unit} → done_answer d ≡ need_capacity c → d ≡ Ok u → (0 < c) × (c ≤ 256)
fits e q = capacity_fits _ (sym e ∙ ap done_answer q)

counted : (c : ℕ) {d : Result Unit Refusal} {u : Unit} {n : ℕ} → done_answer d ≡ need_capacity c → d ≡ Ok u → n ≡ bucket_count c → ok n ≡ count_for c
unfolding count_for
counted c e q w = rw (← e, q, w)

-- what the shift gives is the bucket count
shifted : {c : ℕ} → (0 < c) × (c ≤ 256) → (1 * 2 ^ (65 - count_leading_zeros 64 (c - 1))) % 2 ^ 64 ≡ bucket_count c
shifted {c} f = omega (arith, count_zeros c f.0 (omega arith), few_buckets c f.1)

-- the leading zeros of a number to 256 are at least 54, so that 65 less them is a length to shift by
at_least : {s : ℕ} (n : ℕ) → s < 118 → n ≤ 256 → s - count_leading_zeros 64 n < 64
at_least n h f =
    let len = leading_length 64 n (omega arith) in
    omega (arith, len.1, exponents len.0 10 (omega (arith, len.3)))

pub overflow_sub-predecessor : goal.overflow_sub-predecessor
overflow_sub-predecessor c = (fits c.check_capacity.ensures c.in_ok-check_capacity.was).0

pub overflow_shl-result : goal.overflow_shl-result
overflow_shl-result c = let f = fits c.check_capacity.ensures c.in_ok-check_capacity.was in at_least _ (omega arith) (omega arith)

pub returns : goal.returns
returns c =
    let checked = c.check_capacity.ensures in
    let done = c.in_ok-check_capacity.was in
    counted _ checked done (shifted (fits checked done))
