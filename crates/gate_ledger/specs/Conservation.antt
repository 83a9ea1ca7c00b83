-- SPDX-License-Identifier: Apache-2.0
-- Document 02, request 7, under the gate: the calls that begin and end a pause or a dirty page are in the list and count nothing.
use Rattle.std.specs.Prelude.{ℕ, ◌<◌, ◌≤◌, List, [], ◌∷◌}
use Rattle.ledger.specs.Calls as Plain
use Rattle.ledger.specs.Ledger as PlainLedger
use Rattle.ledger.specs.Conservation.{Conserved}
use Rattle.gate_ledger.specs.Calls.{Call, Event, called, turned, Machine, start, run, log}

-- those of the eight calls
unfoldable pub of_the_eight : List Event → List Plain.Event
of_the_eight [] = []
of_the_eight (called e ∷ es) = e ∷ of_the_eight es
of_the_eight (turned k a ∷ es) = of_the_eight es

-- "Over any such run": after every list of the twelve calls with any arguments, refused ones included, from a fresh table of 1 to 256 slots with the gate as
-- at first
abbrev pub ConservationGated : Machine → Type 0
ConservationGated m =
    (c : ℕ) → 0 < c → c ≤ 256 → (calls : List Call) → Conserved (run m (start c) calls).table (PlainLedger.begin c) (of_the_eight (log m (start c) calls))
