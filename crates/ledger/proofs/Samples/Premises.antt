-- SPDX-License-Identifier: Apache-2.0
-- The premises of the claim as a test that is computed. Assumes nothing.
use mathlib.Core.Path.{◌≡◌}
use mathlib.Core.Bool.{Bool, true, ◌&&◌}
use mathlib.Core.List.{List, [], ◌∷◌}
use lib.Dec.{ltb}
use borrow.Author.Tests.{ltb-true}
use Rattle.basics.specs.Numbers.{MAX}
use Rattle.basics.proofs.Tests.{and_left, and_right}
use Rattle.ledger.specs.Calls.{Event, accessed, published, aborted, looked, removed, detached, resized, reclaimed}
use Rattle.ledger.specs.Ledger.{Ledger, feed}
use Rattle.ledger.specs.Expect.{was_given}
use Rattle.ledger.specs.Claim.{TokenGiven, Fair, FairAll}
use Rattle.ledger.proofs.Keys.Lists.{true_T}

abbrev pub token_given : Ledger → Event → Bool
token_given l (accessed key allow pins a) = true
token_given l (published k a) = was_given l k
token_given l (aborted k a) = was_given l k
token_given l (looked key a) = true
token_given l (removed slot a) = true
token_given l (detached slot a) = true
token_given l (resized asked pins a list) = true
token_given l (reclaimed limit pins a count slots) = true

abbrev pub meets : Ledger → Event → Bool
meets l e = token_given l e && ltb l.uses MAX && ltb l.generations MAX

unfoldable pub meets_all : Ledger → List Event → Bool
meets_all l [] = true
meets_all l (e ∷ es) = meets l e && meets_all (feed l e) es

token_given_lem : (l : Ledger) (e : Event) → token_given l e ≡ true → TokenGiven l e
token_given_lem l (accessed key allow pins a) q = tt
token_given_lem l (published k a) q = true_T (was_given l k) q
token_given_lem l (aborted k a) q = true_T (was_given l k) q
token_given_lem l (looked key a) q = tt
token_given_lem l (removed slot a) q = tt
token_given_lem l (detached slot a) q = tt
token_given_lem l (resized asked pins a list) q = tt
token_given_lem l (reclaimed limit pins a count slots) q = tt

pub fair : (l : Ledger) (e : Event) → meets l e ≡ true → Fair l e
fair l e q =
    let g = token_given l e in
    let u = ltb l.uses MAX in
    let n = ltb l.generations MAX in
    let two = and_left (g && u) n q in
    record { token = token_given_lem l e (and_left g u two); uses = ltb-true l.uses MAX (and_right g u two); generations = ltb-true l.generations MAX (and_right (g && u) n q) }

pub fair_all : (l : Ledger) (es : List Event) → meets_all l es ≡ true → FairAll l es
unfolding meets_all
fair_all l [] q = tt
fair_all l (e ∷ es) q = (fair l e (and_left (meets l e) (meets_all (feed l e) es) q), fair_all (feed l e) es (and_right (meets l e) (meets_all (feed l e) es) q))
