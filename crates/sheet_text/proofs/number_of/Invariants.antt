-- SPDX-License-Identifier: Apache-2.0
-- `sheet_text::number_of`: the digits behind the number so far say the whole number. Assumes nothing.
use Rattle.std.proofs.Common.{◌≡◌, drop}
use Rattle.sheet_text.specs.Parse.{number_from, number_of}
use Rattle.sheet_text.proofs.number_of.Given as goal

abbrev pub invariant-loop-byte : goal.invariant-loop-byte
invariant-loop-byte l = number_from l.n (drop l.byte-index l.word) ≡ number_of l.word
