-- SPDX-License-Identifier: Apache-2.0
-- The closure may still be called, and the lists of the bytes and of the page are as long as they were.
use Rattle.std.proofs.Common.{◌≡◌, length}
use Rattle.picture_numbers.specs.Wrote.{SameList}
use Rattle.cases.proofs.run_all.Given as goal

abbrev pub invariant-loop : goal.invariant-loop
invariant-loop g l = goal.F-IsAlwaysCallable g l.take_case × (length l.bytes ≡ length l.fn.bytes) × SameList l.fn.page l.page
