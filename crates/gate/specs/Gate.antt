-- SPDX-License-Identifier: Apache-2.0
-- Document 02, request 1: "the gate of `maintain_capacity` in the library: a count of pauses, a count of dirty pages, a pending mark and a 64-bit
-- generation".
use Rattle.std.specs.Prelude.{ℕ, ◌+◌, ◌-◌, Bool, false, not, ◌&&◌, eqb, ltb}
use Rattle.basics.specs.Try.{Try, ok, ◌>>=◌, ◌>>◌, need}
use Rattle.basics.specs.Refusals.{FULL, EMPTY}
use Rattle.basics.specs.Numbers.{MAX}
use Rattle.gate.specs.declared.Gate.{Gate}

abbrev pub gate_of : ℕ → ℕ → Bool → ℕ → Gate
gate_of pauses dirty pending generation = record { pauses = pauses; dirty = dirty; pending = pending; generation = generation }

-- "all 0 and unmarked at first"
unfoldable pub at_first : Gate
at_first = gate_of 0 0 false 0

-- a count with one more, and with one less
unfoldable pub one_more : ℕ → Try ℕ
one_more n = do
  need (not (eqb n MAX)) FULL
  ok (n + 1)

unfoldable pub one_less : ℕ → Try ℕ
one_less n = do
  need (ltb 0 n) EMPTY
  ok (n - 1)

-- the calls that begin and end a pause or a dirty page
unfoldable pub begin_pause : Gate → Try Gate
begin_pause g = do
  n ← one_more g.pauses
  ok (gate_of n g.dirty g.pending g.generation)

unfoldable pub end_pause : Gate → Try Gate
end_pause g = do
  n ← one_less g.pauses
  ok (gate_of n g.dirty g.pending g.generation)

unfoldable pub begin_dirty : Gate → Try Gate
begin_dirty g = do
  n ← one_more g.dirty
  ok (gate_of g.pauses n g.pending g.generation)

unfoldable pub end_dirty : Gate → Try Gate
end_dirty g = do
  n ← one_less g.dirty
  ok (gate_of g.pauses n g.pending g.generation)

-- "While paused or pending, access loads nothing."
unfoldable pub admits : Gate → Bool → Bool
admits g allow = allow && eqb g.pauses 0 && not g.pending

-- "a pause or a dirty page"
unfoldable pub stops : Gate → Bool
stops g = not (eqb g.pauses 0 && eqb g.dirty 0)

-- the mark set or cleared
abbrev pub marked : Bool → Gate → Gate
marked pending g = gate_of g.pauses g.dirty pending g.generation

-- "adds 1 to the generation"
abbrev pub counted : Gate → Gate
counted g = gate_of g.pauses g.dirty g.pending (g.generation + 1)
