-- SPDX-License-Identifier: Apache-2.0
-- A text in front of what is left of zeros. Assumes nothing.
use Prim.Native.Nat.{ℕ, ◌-◌}
use mathlib.Core.Path.{◌≡◌, refl}
use mathlib.Core.List.{List, ◌++◌}
use lib.ListN.{length, take, drop, replicate}
use Rattle.std.proofs.lemmas.List.{take_at, drop-replicate}

pub front_is : (text behind : List ℕ) → take (length text) (text ++ behind) ≡ text
front_is text behind = take_at text behind (length text) refl

pub rest_is : (m n byte : ℕ) → drop m (replicate n byte) ≡ replicate (n - m) byte
rest_is m n byte = drop-replicate m n byte

pub ruleset zeros_behind = (front_is, rest_is)
