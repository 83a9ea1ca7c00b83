-- SPDX-License-Identifier: Apache-2.0
-- Every list of the twelve calls leaves a valid table, and 10 is no answer on it.
use Rattle.std.specs.Prelude.{ℕ, ◌<◌, ◌≤◌, List}
use Rattle.laws_table.specs.Table.{Valid}
use Rattle.ledger.specs.Valid as Plain
use Rattle.gate_ledger.specs.Calls.{Call, Event, called, turned, Machine, start, event, run}

-- an answer that is not 10
abbrev pub Runs : Event → Type 0
Runs (called e) = Plain.Runs e
Runs (turned k a) = Plain.Goes a

-- after every list of calls, with no premise on tokens or counts
abbrev pub StaysValidGated : Machine → Type 0
StaysValidGated m =
    (c : ℕ) → 0 < c → c ≤ 256 → (calls : List Call)
    → Valid (run m (start c) calls).table × ((next : Call) → Runs (event m (run m (start c) calls) next))
