-- SPDX-License-Identifier: Apache-2.0
-- The bucket rule and the bucket count.
use Rattle.std.specs.Prelude.{ℕ, ◌+◌, ◌*◌, ◌/◌, ◌%◌, ◌^◌}
use Rattle.basics.specs.Try.{Try, ok, ◌>>◌}
use Rattle.basics.specs.Numbers.{power_over}
use Rattle.basics.specs.Capacity.{need_capacity}
use Rattle.key.specs.declared.CacheKey.{CacheKey}

-- Document 02, request 3: "file is turned left by 5 bits", of 64: the lower 59 bits go up by 5, the upper 5 bits come in below them
unfoldable pub rotated : ℕ → ℕ
rotated file = (file * 2 ^ 5) % 2 ^ 64 + file / 2 ^ 59

-- "before it joins the sum": file, so turned, "+ kind + index, the sum wrapping at 2^64"
unfoldable pub sum_of : CacheKey → ℕ
sum_of key = (rotated key.file + key.kind + key.index) % 2 ^ 64

-- "Its bucket is" that sum "modulo the bucket count."
unfoldable pub bucket_of : CacheKey → ℕ → ℕ
bucket_of key buckets = sum_of key % buckets

-- "The bucket count is the least power of two not below twice the capacity"
unfoldable pub bucket_count : ℕ → ℕ
bucket_count c = power_over (2 * c)

-- `bucket_count`: of a capacity that a table may have
unfoldable pub count_for : ℕ → Try ℕ
count_for c = do
  need_capacity c
  ok (bucket_count c)
