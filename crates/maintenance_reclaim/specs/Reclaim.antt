-- SPDX-License-Identifier: Apache-2.0
-- "Reclaim (`reclaim_batch`) removes up to min(limit, 64) slots, each chosen as a victim is."
use Rattle.std.specs.Prelude.{ℕ, zero, suc, ◌+◌, min, List, eqb, length, set, replicate}
use Rattle.std.proofs.Math.Option.{Option, none, some}
use Rattle.basics.specs.Try.{Try, ok, refuse, ◌>>=◌, ◌>>◌, need}
use Rattle.basics.specs.Refusals.{STOP, PINS}
use Rattle.basics.specs.Numbers.{NONE}
use Rattle.basics.specs.Answers.{done}
use Rattle.state.specs.declared.State.{State}
use Rattle.state.specs.Fresh.{sound}
use Rattle.state.specs.Victim.{victim}
use Rattle.state.specs.Remove.{remove_clean}
use Rattle.maintenance_reclaim.specs.Answers.{Reclaiming}

-- "up to min(limit, 64) slots"
abbrev pub BATCH : ℕ
BATCH = 64

-- the table, how many slots were removed so far, and their numbers in order, then 65535
pub record Taken : Type 0 where
  pub table : State
  pub count : ℕ
  pub slots : List ℕ

-- one slot more
abbrev pub taken_one : Taken → State → ℕ → Taken
taken_one b t slot = record { table = t; count = b.count + 1; slots = set b.slots b.count slot }

-- with a victim on, with none the end
abbrev pub or_end : Taken → Option ℕ → (ℕ → Try Taken) → Try Taken
or_end b none f = ok b
or_end b (some slot) f = f slot

-- the rounds left: in each a victim is looked for afresh and removed
unfoldable pub reclaim_from : ℕ → List ℕ → Taken → Try Taken
reclaim_from zero pins b = ok b
reclaim_from (suc left) pins b = do
  at ← victim b.table.capacity b.table.eviction b.table.clean pins
  or_end b at (λ slot. remove_clean b.table slot >>= (λ t. reclaim_from left pins (taken_one b t slot)))

-- "64 numbers of which the unused are 65535"
abbrev pub no_slots : List ℕ
no_slots = replicate BATCH NONE

-- "a refusal gives count 0 and 65535 throughout"
abbrev pub unless_refused : State → Try Taken → Reclaiming
unless_refused t (ok b) = record { table = b.table; answer = ok done; count = b.count; slots = b.slots }
unless_refused t (refuse n) = record { table = t; answer = refuse n; count = 0; slots = no_slots }

-- the whole call
unfoldable pub reclaim : State → ℕ → List ℕ → Reclaiming
reclaim t limit pins = unless_refused t do
  need (sound t) STOP
  need (eqb (length pins) t.capacity) PINS
  reclaim_from (min limit BATCH) pins (record { table = t; count = 0; slots = no_slots })
