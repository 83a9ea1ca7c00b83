-- SPDX-License-Identifier: Apache-2.0
-- What the private parts of reclaim hand back, read as results of the rules.
use Rattle.std.specs.Prelude.{ℕ, List, Result, Ok, Err}
use Rattle.basics.specs.Try.{Try, ok, refuse}
use Rattle.basics.specs.Answers.{number}
use Rattle.basics.specs.declared.Refusal.{Refusal}
use Rattle.state.specs.declared.State.{State}
use Rattle.maintenance_reclaim.specs.Reclaim.{Taken}

-- the slots taken so far
abbrev pub taken : State → ℕ → List ℕ → Taken
taken t count slots = record { table = t; count = count; slots = slots }

-- the table and the slots after the rounds, and how many slots were removed
abbrev pub removed_answer : State → List ℕ → Result ℕ Refusal → Try Taken
removed_answer t slots (Ok count) = ok (taken t count slots)
removed_answer t slots (Err why) = refuse (number why)
