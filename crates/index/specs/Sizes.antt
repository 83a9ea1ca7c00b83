-- SPDX-License-Identifier: Apache-2.0
-- What the test of the sizes tells.
use Rattle.std.specs.Prelude.{ℕ, ◌<◌, ◌≤◌}

pub record Sized (c buckets n : ℕ) : Type 0 where
  pub small : c ≤ 256
  pub some : 0 < buckets
  pub most : buckets ≤ 512
  pub stack : n ≤ c
