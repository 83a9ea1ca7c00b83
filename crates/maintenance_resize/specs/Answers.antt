-- SPDX-License-Identifier: Apache-2.0
-- What the answer of resize says.
use Rattle.std.specs.Prelude.{ℕ, List, Result, Ok, Err}
use Rattle.basics.specs.Try.{Try, ok, refuse}
use Rattle.basics.specs.Answers.{number}
use Rattle.basics.specs.declared.Refusal.{Refusal}
use Rattle.state.specs.declared.State.{State}
use Rattle.state.specs.declared.Outcome.{Outcome}
use Rattle.maintenance_resize.specs.declared.Maintenance.{Maintenance}

-- Unchanged, Busy, or Resized with the new capacity
pub data Size : Type 0 where
  unchanged : Size
  busy_now : Size
  resized : ℕ → Size

-- each case: the word with its value, or the number of the refusal
abbrev pub size_answer : Result Maintenance Refusal → Try Size
size_answer (Ok Maintenance.Unchanged) = ok unchanged
size_answer (Ok Maintenance.Busy) = ok busy_now
size_answer (Ok (Maintenance.Resized c)) = ok (resized c)
size_answer (Err why) = refuse (number why)

-- the table, the answer and the lent list after resize
pub record Resizing : Type 0 where
  pub table : State
  pub answer : Try Size
  pub list : List ℕ

-- what the code hands back, read so; `list` is what the lent list holds afterwards
abbrev pub maintained_after : Outcome Maintenance → List ℕ → Resizing
maintained_after r list = record { table = r.state; answer = size_answer r.answer; list = list }
