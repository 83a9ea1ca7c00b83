-- SPDX-License-Identifier: Apache-2.0
-- `reel` meets its contract: the keys behind, and the rest of the reel. Assumes nothing.
use Rattle.std.proofs.Common.{◌≡◌, ◌-◌, ◌++◌, length, take}
use Rattle.bench.specs.Reel.{reel}
use Rattle.bench.proofs.reel.Given as goal

abbrev pub invariant-loop-place : goal.invariant-loop-place
invariant-loop-place l = record {
  long : length l.keys ≡ 64;
  keys : take l.place l.keys ++ reel (64 - l.place) l.key l.stride ≡ reel 64 l.fn.key l.stride;
}
