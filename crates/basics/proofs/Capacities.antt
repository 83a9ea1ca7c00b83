-- SPDX-License-Identifier: Apache-2.0
-- What it means that a capacity is one that a table may have. Assumes nothing.
use Prim.Native.Nat.{ℕ, ◌^◌, ◌<◌, ◌≤◌}
use mathlib.Core.Path.{◌≡◌}
use mathlib.Core.Bool.{◌&&◌}
use native.Mathlib.Omega.{arith}
use lib.Dec.{ltb, leb}
use borrow.Author.Tests.{ltb-true, leb-true, lt-ltb, le-leb}
use Rattle.basics.specs.Try.{ok}
use Rattle.basics.specs.Refusals.{INVALID, ALLOCATION}
use Rattle.basics.specs.Answers.{done}
use Rattle.basics.specs.Capacity.{need_capacity}
use Rattle.basics.proofs.Tests.{and_left, met}

pub capacity_fits : (c : ℕ) → need_capacity c ≡ ok done → (0 < c) × (c ≤ 256)
unfolding need_capacity
capacity_fits c e =
    let a = met (ltb 0 c && leb c (2 ^ 62)) INVALID _ done e in
    let b = met (leb c 256) ALLOCATION _ done a.1 in
    (ltb-true 0 c (and_left (ltb 0 c) (leb c (2 ^ 62)) a.0), leb-true c 256 b.0)

pub capacity_allowed : (c : ℕ) → 0 < c → c ≤ 256 → need_capacity c ≡ ok done
unfolding need_capacity
capacity_allowed c hp hs = rw (lt-ltb 0 c hp, le-leb c (2 ^ 62) (omega arith), le-leb c 256 hs)
