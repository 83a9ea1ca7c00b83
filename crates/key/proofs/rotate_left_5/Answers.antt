-- SPDX-License-Identifier: Apache-2.0
-- `key::rotate_left_5` meets its contract: the two parts of the `|` share no bit, so it is their sum. Assumes nothing.
use Rattle.std.proofs.Common.{◌≡◌, ℕ, ◌*◌, ◌/◌, ◌%◌, ◌^◌, ◌<◌, arith}
use lib.Bits.{bit_or, or_shifted}
use Rattle.key.specs.Bucket.{rotated}
use Rattle.key.proofs.rotate_left_5.Goals as goal

-- what is shifted up is a multiple of 32
shifted : (x : ℕ) → (x * 2 ^ 5) % 2 ^ 64 ≡ (x % 2 ^ 59) * 2 ^ 5
shifted x = omega arith

-- and what comes in below it is less than 32
parts : (x : ℕ) → x < 2 ^ 64 → bit_or ((x * 2 ^ 5) % 2 ^ 64) (x / 2 ^ 59) ≡ rotated x
unfolding rotated
parts x h = rw (shifted x) (or_shifted (x % 2 ^ 59) 5 (x / 2 ^ 59) (omega arith))

pub returns : goal.returns
returns c = parts c.args.x c.ranges.x.fits
