-- SPDX-License-Identifier: Apache-2.0
-- "`assert_valid` becomes the invariant that is proved": of every table that a list of calls leaves, whatever their arguments; and 10 is no
-- answer on it.
use Rattle.std.specs.Prelude.{ℕ, ◌<◌, ◌≤◌, ◌≡◌, List}
use Rattle.basics.specs.Try.{Try, refuse}
use Rattle.basics.specs.Refusals.{STOP}
use Rattle.state.specs.Fresh.{fresh}
use Rattle.laws_table.specs.Table.{Valid}
use Rattle.ledger.specs.Calls.{Machine, Call, Event, accessed, published, aborted, looked, removed, detached, resized, reclaimed, event, run}

-- an answer that is not 10
abbrev pub Goes : {A : Type 0} → Try A → Type 0
Goes a = a ≡ refuse STOP → ⊥

-- of a call
abbrev pub Runs : Event → Type 0
Runs (accessed key allow pins a) = Goes a
Runs (published k a) = Goes a
Runs (aborted k a) = Goes a
Runs (looked key a) = Goes a
Runs (removed slot a) = Goes a
Runs (detached slot a) = Goes a
Runs (resized asked pins a list) = Goes a
Runs (reclaimed limit pins a count slots) = Goes a

-- after every list of calls, with no premise on tokens or counts
abbrev pub StaysValid : Machine → Type 0
StaysValid m =
    (c : ℕ) → 0 < c → c ≤ 256 → (calls : List Call)
    → Valid (run m (fresh c) calls) × ((next : Call) → Runs (event m (run m (fresh c) calls) next))
