-- SPDX-License-Identifier: Apache-2.0
-- What reclaim comes to on a table with the invariant: removals one after the other, and their numbers in that order; 10 is no answer of it.
use Rattle.std.specs.Prelude.{ℕ, ◌-◌, ◌<◌, min, ◌≡◌, ◌⊎◌, true, false, List, [], ◌∷◌, ◌++◌, length, replicate}
use Rattle.std.proofs.Math.Option.{some}
use Rattle.basics.specs.Try.{ok, refuse}
use Rattle.basics.specs.Refusals.{PINS, STOP}
use Rattle.basics.specs.Numbers.{NONE}
use Rattle.basics.specs.Answers.{done}
use Rattle.eviction.specs.Entries.{at}
use Rattle.eviction.specs.Victim.{unpinned}
use Rattle.state.specs.declared.State.{State}
use Rattle.state.specs.Slots.{slot_at, vacant_slot, is_clean}
use Rattle.state.specs.Victim.{PLACES, victim}
use Rattle.maintenance_reclaim.specs.Answers.{Reclaiming}
use Rattle.maintenance_reclaim.specs.Reclaim.{BATCH, no_slots}
use Rattle.laws_table.specs.Table.{Valid, Step}

-- the slots removed from t, in order, each "chosen as a victim is" of the table that those before it left, and what they leave
pub data Removals (pins : List ℕ) (t : State) : State → List ℕ → Type 0 where
  none_yet! : Removals pins t t []
  one_more! : {u w : State} {xs : List ℕ} (x : ℕ) → Removals pins t u xs
      → victim u.capacity u.eviction u.clean pins ≡ ok (some x) → is_clean (slot_at u x) ≡ true → unpinned pins x ≡ true
      → Step u w x vacant_slot u.next_access_sequence u.next_load_generation (u.clean - 1) u.loading → Removals pins t w (xs ++ (x ∷ []))

-- "the first min(clean, 64) heap places" are all pinned
abbrev pub AllPinned : State → List ℕ → Type 0
AllPinned t pins = (j : ℕ) → j < min t.clean PLACES → unpinned pins (at t.eviction j).slot ≡ false

pub data ReclaimOutcome (t : State) (limit : ℕ) (pins : List ℕ) (r : Reclaiming) : Type 0 where
  -- "a refusal gives count 0 and 65535 throughout"
  refused! : (length pins ≡ t.capacity → ⊥) → r ≡ record { table = t; answer = refuse PINS; count = 0; slots = no_slots }
      → ReclaimOutcome t limit pins r
  -- "It hands back their numbers in order, as 64 numbers of which the unused are 65535, with the count"; fewer than asked only where none can be chosen
  reclaimed! : (u : State) (xs : List ℕ)
      → r ≡ record { table = u; answer = ok done; count = length xs; slots = xs ++ replicate (BATCH - length xs) NONE } → Removals pins t u xs
      → (length xs ≡ min limit BATCH) ⊎ ((length xs < min limit BATCH) × AllPinned u pins) → ReclaimOutcome t limit pins r

-- what a reclaim leaves: a valid table, and an answer that is not 10
pub record ReclaimKept (r : Reclaiming) : Type 0 where
  pub valid : Valid r.table
  pub runs : r.answer ≡ refuse STOP → ⊥
