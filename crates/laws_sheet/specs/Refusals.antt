-- SPDX-License-Identifier: Apache-2.0
-- The refusals that a record says, by its code: 3, 4, 9 and 10 are none of them, 7 comes only where a number may be spent,
-- and 8 only where the record names a slot.
use Rattle.std.specs.Prelude.{ℕ, ◌+◌, ◌≤◌, ◌≡◌, Bool, true, List, [], ◌∷◌, ◌⊎◌, eqb, leb, if◌then◌else◌}
use Rattle.basics.specs.Lists.{some?}
use Rattle.basics.specs.Numbers.{MAX}
use Rattle.basics.specs.Refusals.{INVALID, ALLOCATION, PINS, LIST, SLOT, STALE, EXHAUSTED, UNCLEAN, UNGIVEN, STOP}
use Rattle.sheet_lines.specs.declared.Said.{Said}
use Rattle.sheet_steps.specs.Standing.{Stepped}
use Rattle.laws_sheet.specs.Orderly.{Orderly, Counted}

-- those of each code; `spent` says whether a use number or a generation may be spent
abbrev pub refusals : Bool → ℕ → List ℕ
refusals spent code =
    if eqb code 1 then INVALID ∷ ALLOCATION ∷ [] else
    if eqb code 2 then (if spent then EXHAUSTED ∷ [] else []) else
    if eqb code 3 then STALE ∷ [] else
    if eqb code 4 then STALE ∷ [] else
    if eqb code 5 then (if spent then EXHAUSTED ∷ [] else []) else
    if eqb code 6 then SLOT ∷ UNCLEAN ∷ [] else
    if eqb code 7 then SLOT ∷ UNCLEAN ∷ [] else
    if eqb code 8 then INVALID ∷ ALLOCATION ∷ [] else
    []

-- whether a record of the code can be refused by n
unfoldable pub refusable : Bool → ℕ → ℕ → Bool
refusable spent code n = some? (eqb n) (refusals spent code)

-- whether it can say the word: each but the other refusals
abbrev pub sayable : Bool → ℕ → Said → Bool
sayable spent code (Said.Made c) = true
sayable spent code (Said.Hit slot) = true
sayable spent code Said.Loading = true
sayable spent code (Said.Reserved slot) = true
sayable spent code (Said.Evicted slot) = true
sayable spent code Said.Busy = true
sayable spent code Said.Done = true
sayable spent code Said.Nothing = true
sayable spent code Said.Unchanged = true
sayable spent code (Said.Resized c) = true
sayable spent code (Said.Reclaimed n) = true
sayable spent code (Said.Refused n) = refusable spent code n
sayable spent code Said.Bad = true

-- a number is spent at 2^64 − 1, so none is before the record of that number
abbrev pub spent_by : ℕ → Bool
spent_by n = leb MAX n

-- what the record n of the code leaves and says
pub record Fair (n code : ℕ) (a : Stepped) : Type 0 where
  pub orderly : Orderly a.standing
  pub counted : Counted (n + 1) a.standing.state
  pub said : sayable (spent_by n) code a.said ≡ true

-- what a refusal by k of the record n tells: k is not 3, 4, 9 or 10; 8 comes only of a slot to remove or to pin, so never of a resize;
-- 7 does not come before the record 2^64 − 1
pub record RefusedBy (n code k : ℕ) : Type 0 where
  pub pins : k ≡ PINS → ⊥
  pub list : k ≡ LIST → ⊥
  pub ungiven : k ≡ UNGIVEN → ⊥
  pub stop : k ≡ STOP → ⊥
  pub unclean : k ≡ UNCLEAN → (code ≡ 6) ⊎ (code ≡ 7)
  pub exhausted : k ≡ EXHAUSTED → MAX ≤ n
