-- SPDX-License-Identifier: Apache-2.0
-- The least power of two not below a number of pins: it is at least that number and 1, at most 256, and for 65 at least 128. Assumes nothing.
use Prim.Native.Nat.{ℕ, ◌<◌, ◌≤◌}
use native.Mathlib.Omega.{arith}
use mathlib.Core.Path.{◌≡◌, refl}
use lib.Pow.{pow_pos}
use Rattle.basics.specs.Numbers.{doubled, power_over}
use Rattle.key.proofs.Least.{power_least}

pub power_over_lem : (n : ℕ) → n ≤ 256 → n ≤ power_over n
power_over_lem n h = (power_least n (omega arith)).over

pub power_pos : (n : ℕ) → n ≤ 256 → 0 < power_over n
power_pos n h = let l = power_least n (omega arith) in rw l.power.1 (pow_pos l.power.0)

pub power_small : (n : ℕ) → n ≤ 256 → power_over n ≤ 256
power_small n h = (power_least n (omega arith)).least 8 h

past_64 : power_over 65 ≡ 128
unfolding power_over doubled
past_64 = refl

pub power_large : (n : ℕ) → 65 ≤ n → n ≤ 256 → 128 ≤ power_over n
power_large n h k =
    let l = power_least n (omega arith) in
    omega (arith, l.power.1, (power_least 65 (omega arith)).least l.power.0 (omega (arith, l.over, l.power.1)), past_64)
