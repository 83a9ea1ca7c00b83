-- SPDX-License-Identifier: Apache-2.0
-- The numbers so far are written.
use lib.ListN.{take}
use Rattle.picture_numbers.specs.Numbers.{spaced}
use Rattle.picture_numbers.specs.Wrote.{Wrote}
use Rattle.picture_numbers.proofs.Page.put_numbers.Given as goal

abbrev pub invariant-loop-n : goal.invariant-loop-n
invariant-loop-n l = Wrote l.fn.self (spaced (take l.n-index l.numbers)) l.self
