-- SPDX-License-Identifier: Apache-2.0
-- What a record does to the token places and what it leaves as it was, of every standing and every record.
use Rattle.std.specs.Prelude.{ℕ, ◌<◌, ◌≡◌, true, Option as Maybe, Some, List, ◌⊎◌, set}
use Rattle.std.proofs.Math.Option.{Option, none, some}
use Rattle.basics.specs.Try.{Try, ok, refuse}
use Rattle.basics.specs.Refusals.{STALE}
use Rattle.state.specs.declared.LoadToken.{LoadToken}
use Rattle.state.specs.Answers.{Given, hit, in_progress, reserved, evicted, busy}
use Rattle.sheet_lines.specs.declared.Record.{Record}
use Rattle.sheet_lines.specs.declared.Said.{Said}
use Rattle.sheet_standing.specs.declared.Standing.{Standing}
use Rattle.sheet_steps.specs.Standing.{Stepped, empty_place, holding, place_at, says}
use Rattle.sheet_steps.specs.Steps.{access_of, step_record}

-- the step of a record that was read
abbrev pub step_of : Standing → Record → Stepped
step_of s r = step_record s (Some r)

-- "A refused 1 leaves all as it was"
abbrev pub RefusedNew : Type 0
RefusedNew = (s : Standing) (r : Record) (n : ℕ) → r.code ≡ 1 → (step_of s r).said ≡ Said.Refused n → (step_of s r).standing ≡ s

-- the token that an access hands out
abbrev pub token_of : Try Given → Option LoadToken
token_of (ok (hit slot)) = none
token_of (ok in_progress) = none
token_of (ok (reserved k)) = some k
token_of (ok (evicted k)) = some k
token_of (ok busy) = none
token_of (refuse n) = none

abbrev pub put_in : List (Maybe LoadToken) → ℕ → Option LoadToken → List (Maybe LoadToken)
put_in places place none = places
put_in places place (some k) = set places place (holding k)

-- "An access that reserves puts its token in the named place", and changes no other; one that does not reserve changes none
abbrev pub AccessPuts : Type 0
AccessPuts =
    (s : Standing) (r : Record) → s.stands ≡ true → r.code ≡ 2 → (step_of s r).standing.places ≡ put_in s.places r.place (token_of (access_of s r).answer)

-- "where it stays until written over": no record of the codes 3 to 9 changes a place
abbrev pub TokensStay : Type 0
TokensStay = (s : Standing) (r : Record) → 2 < r.code → (step_of s r).standing.places ≡ s.places

-- "An empty token place gives 6", of a publish and of an abort, and all is as it was
abbrev pub EmptyPlace : Type 0
EmptyPlace =
    (s : Standing) (r : Record) → s.stands ≡ true → (r.code ≡ 3) ⊎ (r.code ≡ 4) → place_at s r.place ≡ empty_place
    → step_of s r ≡ says s (Said.Refused STALE)
