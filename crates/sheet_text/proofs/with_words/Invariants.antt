-- SPDX-License-Identifier: Apache-2.0
-- `sheet_text::with_words`: the words behind those passed, with the call so far. Assumes nothing.
use Rattle.std.proofs.Common.{◌≡◌, ◌-◌, ◌≤◌, length, drop}
use Rattle.sheet_text.specs.Parse.{with_words}
use Rattle.sheet_text.proofs.with_words.Given as goal

abbrev pub invariant-loop-turn : goal.invariant-loop-turn
invariant-loop-turn l =
    (l.at ≤ length l.text)
    × (with_words (length l.text - l._turn) l.so_far l.call l.at (drop l.at l.text) ≡ with_words (length l.text) l.initial.so_far l.call l.start (drop l.start l.text))
