-- SPDX-License-Identifier: Apache-2.0
-- What the answer of a restoring says.
use Rattle.std.specs.Prelude.{Bool, true, false, Option as Maybe, None, Some, Result, Ok, Err}
use Rattle.std.proofs.Math.Option.{Option, none, some}
use Rattle.basics.specs.Try.{Try, ok, refuse}
use Rattle.basics.specs.Answers.{number}
use Rattle.basics.specs.declared.Refusal.{Refusal}
use Rattle.state.specs.declared.State.{State}

-- a table, or none where there was no room, or the number of the refusal
abbrev pub restored_answer : Result (Maybe State) Refusal → Try (Option State)
restored_answer (Ok None) = ok none
restored_answer (Ok (Some t)) = ok (some t)
restored_answer (Err why) = refuse (number why)

-- what a restoring in place left, read so: none where it says that there was no room
abbrev pub restored : State → Result Bool Refusal → Try (Option State)
restored t (Ok true) = ok (some t)
restored t (Ok false) = ok none
restored t (Err why) = refuse (number why)
