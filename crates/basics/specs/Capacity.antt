-- SPDX-License-Identifier: Apache-2.0
-- "From the input": the capacities that a table may have.
use Rattle.std.specs.Prelude.{ℕ, ◌^◌, ◌&&◌, ltb, leb}
use Rattle.basics.specs.Try.{Try, ok, ◌>>◌, need}
use Rattle.basics.specs.Refusals.{INVALID, ALLOCATION}
use Rattle.basics.specs.Answers.{Fine, done}

-- "1 InvalidCapacity: capacity 0 or above 2^62. 2 Allocation: 257 to 2^62 (added limit)."
unfoldable pub need_capacity : ℕ → Try Fine
need_capacity c = do
  need (ltb 0 c && leb c (2 ^ 62)) INVALID
  need (leb c 256) ALLOCATION
  ok done
