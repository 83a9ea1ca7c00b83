-- SPDX-License-Identifier: Apache-2.0
-- What the struct `Freed` says.
use Rattle.std.specs.Prelude.{Result, Ok, Err}
use Rattle.basics.specs.declared.Refusal.{Refusal}
use Rattle.basics.specs.Try.{Try, ok, refuse}
use Rattle.basics.specs.Answers.{number}
use Rattle.state.specs.Access.{Freed as FreedParts}
use Rattle.state_access.specs.declared.Freed.{Freed}

-- the parts, or the number of the refusal
abbrev pub freed_answer : Result Freed Refusal → Try FreedParts
freed_answer (Ok f) = ok (record { index = f.index; heap = f.heap; clean = f.clean; left = f.left })
freed_answer (Err why) = refuse (number why)
