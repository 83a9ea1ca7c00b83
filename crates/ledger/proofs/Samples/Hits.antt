-- SPDX-License-Identifier: Apache-2.0
-- Two slots: a refusal, a token shown twice, hits, an eviction and a spent token. Assumes nothing.
use Prim.Native.Nat.{ℕ}
use native.Mathlib.Omega.{arith}
use mathlib.Core.Path.{◌≡◌, refl, ap}
use mathlib.Core.Bool.{true, false}
use mathlib.Core.List.{List, [], ◌∷◌}
use mathlib.Core.Option.{some}
use lib.ListN.{take}
use Rattle.basics.specs.Try.{ok, refuse}
use Rattle.basics.specs.Answers.{done}
use Rattle.state.specs.Answers.{hit, in_progress, reserved, evicted}
use Rattle.state.specs.Fresh.{fresh}
use Rattle.ledger.specs.Calls.{rules, Call, access, publish, abort, lookup, accessed, published, aborted, looked, event, run, log}
use Rattle.ledger.specs.Ledger.{begin}
use Rattle.ledger.specs.Claim.{Holds, Allowed, FairAll, ledger_of}
use Rattle.ledger.specs.Opened.{opened}
use Rattle.ledger.proofs.Samples.Premises.{meets_all, fair_all}
use Rattle.ledger.proofs.Samples.Words.{key, token, held, slot_in}

abbrev pins : List ℕ
pins = 0 ∷ 0 ∷ []

abbrev pub hits : List Call
hits =
    access (key 1) true pins
    ∷ access (key 2) true pins
    ∷ access (key 1) true pins
    ∷ access (key 3) true (0 ∷ [])
    ∷ publish (token 0 1 1 1)
    ∷ publish (token 0 1 1 1)
    ∷ publish (token 1 2 2 2)
    ∷ access (key 1) true pins
    ∷ lookup (key 2)
    ∷ lookup (key 1)
    ∷ access (key 3) true pins
    ∷ abort (token 1 3 3 6)
    ∷ abort (token 1 3 3 6)
    ∷ []

-- its calls with their answers: the token that ends twice gives 6, and the key that goes is 2, last used before key 1
hits_answers :
    log rules (fresh 2) hits
    ≡ accessed (key 1) true pins (ok (reserved (token 0 1 1 1)))
    ∷ accessed (key 2) true pins (ok (reserved (token 1 2 2 2)))
    ∷ accessed (key 1) true pins (ok in_progress)
    ∷ accessed (key 3) true (0 ∷ []) (refuse 3)
    ∷ published (token 0 1 1 1) (ok done)
    ∷ published (token 0 1 1 1) (refuse 6)
    ∷ published (token 1 2 2 2) (ok done)
    ∷ accessed (key 1) true pins (ok (hit 0))
    ∷ looked (key 2) (ok (some 1))
    ∷ looked (key 1) (ok (some 0))
    ∷ accessed (key 3) true pins (ok (evicted (token 1 3 3 6)))
    ∷ aborted (token 1 3 3 6) (ok done)
    ∷ aborted (token 1 3 3 6) (refuse 6)
    ∷ []
unfolding opened
hits_answers = refl

pub hits_fair : FairAll (begin 2) (log rules (fresh 2) hits)
hits_fair = fair_all (begin 2) (log rules (fresh 2) hits) meet
  where
    meet : meets_all (begin 2) (log rules (fresh 2) hits) ≡ true
    meet = unfold opened meets_all in refl

-- the ledger before the abort: key 3 loads in slot 1, and key 1 was last used at 5
hits_ledger : (ledger_of rules 2 (take 11 hits)).held ≡ held 3 1 false 6 ∷ held 1 0 true 5 ∷ []
unfolding opened
hits_ledger = refl

hits_holds : Holds (run rules (fresh 2) (take 11 hits)) (ledger_of rules 2 (take 11 hits))
unfolding opened
hits_holds = record { capacity = refl; slots = refl; inside = tt; once = tt }

-- the eviction's answer is allowed, and one that takes the other slot is not
evict_allowed : Allowed (ledger_of rules 2 (take 10 hits)) (event rules (run rules (fresh 2) (take 10 hits)) (access (key 3) true pins))
unfolding opened
evict_allowed = refl

other_refused : Allowed (ledger_of rules 2 (take 10 hits)) (accessed (key 3) true pins (ok (evicted (token 0 3 3 6)))) → ⊥
unfolding opened
other_refused e = let z : ◌≡◌ {A = ℕ} 0 1 = ap slot_in e in omega arith

-- the table before the eviction is not that of the ledger after it
untouched_refused : Holds (run rules (fresh 2) (take 10 hits)) (ledger_of rules 2 (take 11 hits)) → ⊥
unfolding opened
untouched_refused h = let s = h.slots in let z : ◌≡◌ {A = ℕ} 0 1 = cc in omega arith
