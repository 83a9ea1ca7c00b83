-- SPDX-License-Identifier: Apache-2.0
-- Document 02, request 6, sentence by sentence: of every table, where no premise says more.
use Rattle.std.specs.Prelude.{ℕ, suc, ◌+◌, ◌*◌, ◌/◌, min, ◌<◌, ◌≤◌, ◌≡◌, true, false, List, [], ◌∷◌, length, drop}
use Rattle.std.proofs.Math.Option.{none, some}
use Rattle.basics.specs.Try.{ok, refuse}
use Rattle.basics.specs.Refusals.{INVALID, ALLOCATION, PINS, UNCLEAN, STOP}
use Rattle.basics.specs.Numbers.{MAX}
use Rattle.basics.specs.Members.{In}
use Rattle.eviction.specs.Victim.{unpinned}
use Rattle.state.specs.declared.State.{State}
use Rattle.state.specs.Slots.{slot_at, is_clean}
use Rattle.state.specs.Fresh.{fresh}
use Rattle.maintenance_restore.specs.Pins.{pin_count}
use Rattle.maintenance_restore.specs.Restore.{restore, restore_pinned}
use Rattle.maintenance_restore.specs.Tries.{tries_pinned, tries_candidate}
use Rattle.maintenance_resize.specs.Answers.{Size, unchanged, busy_now, resized, Resizing}
use Rattle.maintenance_resize.specs.Resize.{resize}
use Rattle.maintenance_resize.specs.Cost.{restores_of, costs_of, by_answer, cost}
use Rattle.gate.specs.declared.Gate.{Gate}
use Rattle.gate.specs.Gate.{stops}
use Rattle.passage.specs.Resize.{resize_through}
use Rattle.laws_table.specs.Table.{how_many, Valid}

-- ---- "Answer, capacity and drops shall equal what resize then does on that table and pins, and the restores those of document 01's steps."

-- whatever list of the old capacity's length that resize is lent: the cost is read off its answer and its list. The restores stand on both sides, as
-- `restores_of` tells them, since resize does not hand them on
abbrev pub Foretells : Type 0
Foretells = (t : State) (asked : ℕ) (pins list : List ℕ) → length list ≡ t.capacity
    → cost t asked pins ≡ by_answer t (resize t asked pins list).list (restores_of t asked pins) (resize t asked pins list).answer

-- and the answer told is the answer
abbrev pub SameAnswer : Type 0
SameAnswer = (t : State) (asked : ℕ) (pins list : List ℕ) → length list ≡ t.capacity → (cost t asked pins).answer ≡ (resize t asked pins list).answer

-- "the capacity it will end with": that of the table which resize leaves, where the answer is no refusal
abbrev pub EndsWith : Type 0
EndsWith = (t : State) (asked : ℕ) (pins list : List ℕ) (a : Size) → length list ≡ t.capacity → (resize t asked pins list).answer ≡ ok a
    → (cost t asked pins).capacity ≡ (resize t asked pins list).table.capacity

-- "The gate is taken as open and its generation as not spent.": with no pause, no dirty page and the generation below 2^64−1, whatever the mark, the same of
-- resize through the gate
abbrev pub ForetellsThroughGate : Type 0
ForetellsThroughGate = (t : State) (g : Gate) (asked : ℕ) (pins list : List ℕ) → stops g ≡ false → (g.generation ≡ MAX → ⊥) → length list ≡ t.capacity
    → (let r = (resize_through t g asked pins list).resizing in cost t asked pins ≡ by_answer t r.list (restores_of t asked pins) r.answer)

-- ---- "how many keys it will drop"

-- the clean slots of t are those dropped and those of the table that resize leaves, by the two tables' counts and by their slots
pub record Parted (t : State) (drops : ℕ) (r : Resizing) : Type 0 where
  pub counts : drops + r.table.clean ≡ t.clean
  pub slots : drops + how_many is_clean r.table.slots r.table.capacity ≡ how_many is_clean t.slots t.capacity

-- on a valid table, whatever the answer
abbrev pub DropsOnValid : Type 0
DropsOnValid = (t : State) → Valid t → (asked : ℕ) (pins list : List ℕ) → length list ≡ t.capacity
    → Parted t (cost t asked pins).drops (resize t asked pins list)

-- ---- "Where nothing is remade the capacity is the old one and drops are 0; a Busy over chains still gives the restores tried."

-- Unchanged: nothing was tried
abbrev pub UnchangedKeeps : Type 0
UnchangedKeeps = (t : State) (asked : ℕ) (pins : List ℕ) → (cost t asked pins).answer ≡ ok unchanged
    → cost t asked pins ≡ costs_of (ok unchanged) t.capacity 0 0

-- Busy for loads: nothing was tried
abbrev pub BusyOverLoads : Type 0
BusyOverLoads = (t : State) (asked : ℕ) (pins : List ℕ) → 0 < t.loading → (cost t asked pins).answer ≡ ok busy_now
    → cost t asked pins ≡ costs_of (ok busy_now) t.capacity 0 0

-- Busy with no load is over chains: the key refused was tried, so restores are not 0
abbrev pub BusyOverChains : Type 0
BusyOverChains = (t : State) (asked : ℕ) (pins : List ℕ) → t.loading ≡ 0 → (cost t asked pins).answer ≡ ok busy_now
    → (cost t asked pins ≡ costs_of (ok busy_now) t.capacity 0 (restores_of t asked pins)) × (0 < restores_of t asked pins)

-- ---- "how many restores it will try, failed attempts included"

-- where a key stops an attempt: its slot, and the table with the pinned keys before it; all pins are tried but those behind it
pub record StoppedAt (old : State) (pins : List ℕ) (new : State) : Type 0 where
  pub slot : ℕ
  pub table : State
  pub pin : unpinned pins slot ≡ false
  pub before : restore_pinned slot old pins 0 new ≡ ok (some table)
  pub full : restore table (slot_at old slot).key (slot_at old slot).last_access ≡ ok none
  pub tried : tries_pinned old.capacity old pins 0 new + pin_count (drop (slot + 1) pins) ≡ pin_count pins

-- an attempt tries each pinned key once, or each up to and with the one that stops it
abbrev pub AttemptTries : Type 0
AttemptTries = (old : State) (pins : List ℕ) (new : State) → length pins ≡ old.capacity
    → ((u : State) → restore_pinned old.capacity old pins 0 new ≡ ok (some u) → tries_pinned old.capacity old pins 0 new ≡ pin_count pins)
    × (restore_pinned old.capacity old pins 0 new ≡ ok none → StoppedAt old pins new)

-- an attempt that a key stopped stays told beside those at twice the capacity and on
abbrev pub FailedIncluded : Type 0
FailedIncluded = (left : ℕ) (old : State) (pins : List ℕ) (c : ℕ) → restore_pinned old.capacity old pins 0 (fresh c) ≡ ok none → c < old.capacity / 2
    → tries_candidate (suc left) old pins true c ≡ tries_pinned old.capacity old pins 0 (fresh c) + tries_candidate left old pins true (c * 2)

-- the clean count of the table that resize makes is at most the restores told
abbrev pub KeptWereTried : Type 0
KeptWereTried = (t : State) (asked : ℕ) (pins list : List ℕ) (c : ℕ) → length list ≡ t.capacity → (resize t asked pins list).answer ≡ ok (resized c)
    → (resize t asked pins list).table.clean ≤ (cost t asked pins).restores

-- on a valid table each key that is not removed for room is tried just once
abbrev pub RestoresOnValid : Type 0
RestoresOnValid = (t : State) → Valid t → (asked : ℕ) (pins list : List ℕ) (c : ℕ) → length list ≡ t.capacity
    → (resize t asked pins list).answer ≡ ok (resized c) → (cost t asked pins).restores ≡ min t.clean c

-- ---- "A refusal gives 0 for all three."

abbrev pub RefusalIs0 : Type 0
RefusalIs0 = (t : State) (asked : ℕ) (pins : List ℕ) (n : ℕ) → (cost t asked pins).answer ≡ refuse n → cost t asked pins ≡ costs_of (refuse n) 0 0 0

-- ---- "Refusals are resize's own but 4."

-- each is one of these five, so none is 4
abbrev pub RefusesBy : Type 0
RefusesBy = (t : State) (asked : ℕ) (pins : List ℕ) (n : ℕ) → (cost t asked pins).answer ≡ refuse n
    → In n (STOP ∷ INVALID ∷ ALLOCATION ∷ PINS ∷ UNCLEAN ∷ [])
