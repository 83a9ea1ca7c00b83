-- SPDX-License-Identifier: Apache-2.0
-- An emptied table made smaller: the numbers carry on, so the next generation is 2; the token from before gives 6, and the new one is good. Assumes nothing.
use mathlib.Core.Path.{◌≡◌, refl}
use mathlib.Core.Bool.{true}
use mathlib.Core.List.{List, [], ◌∷◌}
use Rattle.basics.specs.Try.{ok, refuse}
use Rattle.basics.specs.Refusals.{STALE}
use Rattle.basics.specs.Answers.{done}
use Rattle.state.specs.Answers.{reserved}
use Rattle.state.specs.Fresh.{fresh}
use Rattle.maintenance_resize.specs.Answers as Size
use Rattle.ledger.specs.Calls.{rules, Call, access, publish, abort, resize, accessed, published, aborted, resized, run, log}
use Rattle.ledger.specs.Ledger.{begin}
use Rattle.ledger.specs.Claim.{Holds, FairAll, ledger_of}
use Rattle.ledger.specs.Opened.{opened}
use Rattle.ledger.proofs.Samples.Premises.{meets_all, fair_all}
use Rattle.ledger.proofs.Samples.Words.{key, token, held}

abbrev pub carried : List Call
carried = access (key 1) true (0 ∷ 0 ∷ []) ∷ abort (token 0 1 1 1) ∷ resize 1 (0 ∷ 0 ∷ []) (7 ∷ 7 ∷ []) ∷ access (key 1) true (0 ∷ []) ∷ publish (token 0 1 1 1) ∷ publish (token 0 2 1 2) ∷ []

carried_answers :
    log rules (fresh 2) carried
    ≡ accessed (key 1) true (0 ∷ 0 ∷ []) (ok (reserved (token 0 1 1 1)))
    ∷ aborted (token 0 1 1 1) (ok done)
    ∷ resized 1 (0 ∷ 0 ∷ []) (ok (Size.resized 1)) (65535 ∷ 65535 ∷ [])
    ∷ accessed (key 1) true (0 ∷ []) (ok (reserved (token 0 2 1 2)))
    ∷ published (token 0 1 1 1) (refuse STALE)
    ∷ published (token 0 2 1 2) (ok done)
    ∷ []
unfolding opened
carried_answers = refl

pub carried_fair : FairAll (begin 2) (log rules (fresh 2) carried)
carried_fair = fair_all (begin 2) (log rules (fresh 2) carried) meet
  where
    meet : meets_all (begin 2) (log rules (fresh 2) carried) ≡ true
    meet = unfold opened meets_all in refl

carried_ledger : ledger_of rules 2 carried ≡ record { capacity = 1; held = held 1 0 true 2 ∷ []; uses = 2; generations = 2; given = token 0 2 1 2 ∷ token 0 1 1 1 ∷ []; ended = token 0 2 1 2 ∷ token 0 1 1 1 ∷ [] }
unfolding opened
carried_ledger = refl

carried_holds : Holds (run rules (fresh 2) carried) (ledger_of rules 2 carried)
unfolding opened
carried_holds = record { capacity = refl; slots = refl; inside = tt; once = tt }
