-- SPDX-License-Identifier: Apache-2.0
-- Two slots made four with a pin, a key reclaimed, four slots made one with a pin, then two; a key removed and one detached. Assumes nothing.
use mathlib.Core.Path.{◌≡◌, refl}
use mathlib.Core.Bool.{true}
use mathlib.Core.List.{List, [], ◌∷◌}
use lib.ListN.{replicate, take}
use Rattle.basics.specs.Try.{ok}
use Rattle.basics.specs.Answers.{done}
use Rattle.state.specs.Answers.{reserved}
use Rattle.state.specs.Fresh.{fresh}
use Rattle.maintenance_resize.specs.Answers as Size
use Rattle.ledger.specs.Calls.{rules, Call, access, publish, remove, detach, resize, reclaim, accessed, published, removed, detached, resized, reclaimed, run, log}
use Rattle.ledger.specs.Ledger.{begin}
use Rattle.ledger.specs.Claim.{Holds, FairAll, ledger_of}
use Rattle.ledger.specs.Opened.{opened}
use Rattle.ledger.proofs.Samples.Premises.{meets_all, fair_all}
use Rattle.ledger.proofs.Samples.Words.{key, token, held}

abbrev pub sizes : List Call
sizes =
    access (key 1) true (0 ∷ 0 ∷ [])
    ∷ publish (token 0 1 1 1)
    ∷ access (key 2) true (0 ∷ 0 ∷ [])
    ∷ publish (token 1 2 2 2)
    ∷ resize 4 (0 ∷ 1 ∷ []) (7 ∷ 7 ∷ [])
    ∷ access (key 3) true (0 ∷ 0 ∷ 0 ∷ 0 ∷ [])
    ∷ publish (token 2 3 3 3)
    ∷ reclaim 1 (0 ∷ 0 ∷ 0 ∷ 0 ∷ [])
    ∷ resize 1 (1 ∷ 0 ∷ 0 ∷ 0 ∷ []) (7 ∷ 7 ∷ 7 ∷ 7 ∷ [])
    ∷ resize 2 (0 ∷ []) (7 ∷ [])
    ∷ access (key 4) true (0 ∷ 0 ∷ [])
    ∷ publish (token 1 4 4 4)
    ∷ remove 0
    ∷ detach 1
    ∷ []

-- grown, the pinned key 2 goes first and none is lost; shrunk, the pinned key 2 stays and key 3 leaves
sizes_answers :
    log rules (fresh 2) sizes
    ≡ accessed (key 1) true (0 ∷ 0 ∷ []) (ok (reserved (token 0 1 1 1)))
    ∷ published (token 0 1 1 1) (ok done)
    ∷ accessed (key 2) true (0 ∷ 0 ∷ []) (ok (reserved (token 1 2 2 2)))
    ∷ published (token 1 2 2 2) (ok done)
    ∷ resized 4 (0 ∷ 1 ∷ []) (ok (Size.resized 4)) (1 ∷ 0 ∷ [])
    ∷ accessed (key 3) true (0 ∷ 0 ∷ 0 ∷ 0 ∷ []) (ok (reserved (token 2 3 3 3)))
    ∷ published (token 2 3 3 3) (ok done)
    ∷ reclaimed 1 (0 ∷ 0 ∷ 0 ∷ 0 ∷ []) (ok done) 1 (1 ∷ replicate 63 65535)
    ∷ resized 1 (1 ∷ 0 ∷ 0 ∷ 0 ∷ []) (ok (Size.resized 1)) (0 ∷ 65535 ∷ 65535 ∷ 65535 ∷ [])
    ∷ resized 2 (0 ∷ []) (ok (Size.resized 2)) (0 ∷ [])
    ∷ accessed (key 4) true (0 ∷ 0 ∷ []) (ok (reserved (token 1 4 4 4)))
    ∷ published (token 1 4 4 4) (ok done)
    ∷ removed 0 (ok done)
    ∷ detached 1 (ok done)
    ∷ []
unfolding opened
sizes_answers = refl

pub sizes_fair : FairAll (begin 2) (log rules (fresh 2) sizes)
sizes_fair = fair_all (begin 2) (log rules (fresh 2) sizes) meet
  where
    meet : meets_all (begin 2) (log rules (fresh 2) sizes) ≡ true
    meet = unfold opened meets_all in refl

-- before the two leave: key 2, pinned twice over, has its last use
sizes_ledger : (ledger_of rules 2 (take 12 sizes)).held ≡ held 4 1 true 4 ∷ held 2 0 true 2 ∷ []
unfolding opened
sizes_ledger = refl

sizes_holds : Holds (run rules (fresh 2) (take 12 sizes)) (ledger_of rules 2 (take 12 sizes))
unfolding opened
sizes_holds = record { capacity = refl; slots = refl; inside = tt; once = tt }
