-- SPDX-License-Identifier: Apache-2.0
-- A list of calls in which every way that a key comes or goes is met, with what each counts: so the theorem on what is accounted for is not empty.
-- Assumes nothing.
use Prim.Native.Nat.{ℕ}
use mathlib.Core.Path.{◌≡◌, refl}
use mathlib.Core.Bool.{true}
use mathlib.Core.List.{List, [], ◌∷◌}
use native.Mathlib.Omega.{arith}
use Rattle.state.specs.declared.State.{State}
use Rattle.state.specs.Slots.{is_loading, is_clean}
use Rattle.state.specs.Fresh.{fresh}
use Rattle.laws_table.specs.Table.{how_many}
use Rattle.ledger.specs.Calls.{rules, Call, Event, access, publish, abort, remove, detach, resize, reclaim, run, log}
use Rattle.ledger.specs.Ledger.{Ledger, begin}
use Rattle.ledger.specs.Conservation.{reservations, publishes, aborts, evictions, removals, detachments, reclaims, drops, total, Conserved}
use Rattle.ledger.specs.Opened.{opened}
use Rattle.ledger.proofs.Conservation.{conservation}
use Rattle.ledger.proofs.Samples.Words.{key, token}

abbrev none : List ℕ
none = 0 ∷ 0 ∷ []

-- 1 is evicted by 3, 2 published with an altered use number and once more, and removed; 4 aborted; 3 dropped by the first resize; 5 moved by it, not dropped by
-- the third, whose list has 65535 for the vacant slot, and reclaimed; 6 detached, and the emptied table grows, shrinks and grows; 7 stays clean, 8 loading
abbrev pub calls : List Call
calls =
    access (key 1) true none ∷ publish (token 0 1 1 1)
    ∷ access (key 2) true none ∷ publish (token 1 2 2 1) ∷ publish (token 1 2 2 2)
    ∷ access (key 3) true none ∷ publish (token 0 3 3 3)
    ∷ remove 1
    ∷ access (key 4) true none ∷ abort (token 1 4 4 4) ∷ abort (token 1 4 4 4)
    ∷ access (key 5) true none ∷ publish (token 1 5 5 5)
    ∷ resize 1 none (7 ∷ 7 ∷ []) ∷ resize 2 (0 ∷ []) (7 ∷ []) ∷ resize 1 none (7 ∷ 7 ∷ [])
    ∷ reclaim 1 (0 ∷ [])
    ∷ access (key 6) true (0 ∷ []) ∷ publish (token 0 6 6 6) ∷ detach 0
    ∷ resize 2 (0 ∷ []) (7 ∷ []) ∷ resize 1 none (7 ∷ 7 ∷ []) ∷ resize 2 (0 ∷ []) (7 ∷ [])
    ∷ access (key 7) true none ∷ publish (token 0 7 7 7) ∷ access (key 8) true none
    ∷ []

abbrev l : Ledger
l = begin 2

abbrev es : List Event
es = log rules (fresh 2) calls

abbrev t : State
t = run rules (fresh 2) calls

came : (total reservations l es ≡ 8) × (total publishes l es ≡ 6) × (total aborts l es ≡ 1) × (how_many is_loading t.slots t.capacity ≡ 1)
unfolding opened
came = (refl, refl, refl, refl)

went : (total evictions l es ≡ 1) × (total removals l es ≡ 1) × (total detachments l es ≡ 1) × (total reclaims l es ≡ 1) × (total drops l es ≡ 1)
    × (how_many is_clean t.slots t.capacity ≡ 1)
unfolding opened
went = (refl, refl, refl, refl, refl, refl)

pub accounts : Conserved t l es
accounts = conservation 2 (omega arith) (omega arith) calls
