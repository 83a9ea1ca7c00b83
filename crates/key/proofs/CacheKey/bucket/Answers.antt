-- SPDX-License-Identifier: Apache-2.0
-- `CacheKey::bucket` meets its contract: two sums that wrap are one sum that wraps, of the file as `rotate_left_5` turns it. Assumes nothing.
use Rattle.std.proofs.Common.{◌≡◌, ℕ, ◌+◌, ◌%◌, ◌^◌, ap, ◌∙◌}
use native.Mathlib.Nat.{mod-add-mod, mod-zero}
use Rattle.key.specs.declared.CacheKey.{CacheKey}
use Rattle.key.specs.Bucket.{rotated, sum_of, bucket_of}
use Rattle.key.proofs.CacheKey.bucket.Goals as goal

-- two sums that wrap, over the turned file
wrapped : (k : CacheKey) {turned kind : ℕ} → turned ≡ rotated k.file → kind ≡ k.kind → ((turned + kind) % 2 ^ 64 + k.index) % 2 ^ 64 ≡ sum_of k
unfolding sum_of
wrapped k {turned} {kind} t e = mod-add-mod _ _ _ ∙ ap (λ (x : ℕ). (x + kind + k.index) % 2 ^ 64) t ∙ ap (λ (x : ℕ). (rotated k.file + x + k.index) % 2 ^ 64) e

pub returns-then-buckets-eq0 : goal.returns-then-buckets-eq0
unfolding bucket_of
returns-then-buckets-eq0 c = wrapped c.args.self c.rotate_left_5-turned.ensures c.from.ensures ∙ rw (c.if-buckets-eq0.true, mod-zero)

pub returns : goal.returns
unfolding bucket_of
returns c = ap (λ (x : ℕ). x % c.args.buckets) (wrapped c.args.self c.rotate_left_5-turned.ensures c.from.ensures)
