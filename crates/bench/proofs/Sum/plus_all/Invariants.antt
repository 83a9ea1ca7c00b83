-- SPDX-License-Identifier: Apache-2.0
-- `Sum::plus_all` meets its contract: the numbers behind are added. Assumes nothing.
use Rattle.std.proofs.Common.{◌≡◌, take}
use Rattle.std.specs.List.{fold}
use Rattle.bench.specs.Sum.{plus}
use Rattle.bench.proofs.Sum.plus_all.Given as goal

abbrev pub invariant-loop-number : goal.invariant-loop-number
invariant-loop-number l = l.sum ≡ fold plus l.fn.self (take l.number-index l.numbers)
