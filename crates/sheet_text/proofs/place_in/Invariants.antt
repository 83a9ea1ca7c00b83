-- SPDX-License-Identifier: Apache-2.0
-- `sheet_text::place_in`: the names passed, and the place among those behind them. Assumes nothing.
use Rattle.std.proofs.Common.{◌≡◌, ◌+◌, ◌-◌, ◌≤◌, length, drop}
use Rattle.sheet_text.specs.Parse.{place_in}
use Rattle.sheet_text.proofs.place_in.Given as goal

abbrev pub invariant-loop-place : goal.invariant-loop-place
invariant-loop-place l =
    (l.at ≤ length l.names) × (l.place + place_in (length l.names - l.place) (drop l.at l.names) l.word ≡ place_in (length l.names) l.names l.word)
