-- SPDX-License-Identifier: Apache-2.0
-- An attempt of resize: the gate goes by the answer that the rule gives. Assumes nothing.
use Prim.Native.Nat.{ℕ}
use mathlib.Core.Path.{◌≡◌}
use mathlib.Core.List.{List}
use Rattle.state.specs.declared.State.{State}
use Rattle.maintenance_resize.specs.Answers.{Resizing}
use Rattle.maintenance_resize.specs.Resize.{resize}
use Rattle.gate.specs.declared.Gate.{Gate}
use Rattle.passage.specs.Resize.{passing_of, attempted, attempt_rule}

pub attempt_is : (t : State) (g h : Gate) (asked : ℕ) (pins list : List ℕ) (r : Resizing) → r ≡ resize t asked pins list → h ≡ attempted g r.answer
    → passing_of r h ≡ attempt_rule t g asked pins list
unfolding attempt_rule
attempt_is t g h asked pins list r e k = rw (k, e)
