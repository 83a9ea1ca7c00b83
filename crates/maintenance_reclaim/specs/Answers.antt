-- SPDX-License-Identifier: Apache-2.0
-- What the answer of reclaim says.
use Rattle.std.specs.Prelude.{ℕ, List}
use Rattle.basics.specs.Try.{Try}
use Rattle.basics.specs.Answers.{Fine, done_answer}
use Rattle.state.specs.declared.State.{State}
use Rattle.maintenance_reclaim.specs.declared.Batch.{Batch}

-- the table, the answer, the count and the 64 numbers after reclaim
pub record Reclaiming : Type 0 where
  pub table : State
  pub answer : Try Fine
  pub count : ℕ
  pub slots : List ℕ

-- what the code hands back, read so
abbrev pub batch_after : Batch → Reclaiming
batch_after r = record { table = r.state; answer = done_answer r.answer; count = r.count; slots = r.slots }
