-- SPDX-License-Identifier: Apache-2.0
-- What the answer of the batch says.
use Rattle.std.specs.Prelude.{ℕ, List}
use Rattle.basics.specs.Answers.{done_answer}
use Rattle.batch.specs.Batch.{Peeking}
use Rattle.batch.specs.declared.Peeked.{Peeked}

-- what the code hands back and the list after it, read so
abbrev pub peeked_after : List ℕ → Peeked → Peeking
peeked_after list r = record { answer = done_answer r.answer; visited = r.visited; list = list }
