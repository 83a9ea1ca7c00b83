-- SPDX-License-Identifier: Apache-2.0
-- What a remaking leaves, of the old table t: the new table and the list that says where each key went.
use Rattle.std.specs.Prelude.{ℕ, ◌<◌, ◌≤◌, ◌≡◌, true, false, List, length, get_or}
use Rattle.basics.specs.Try.{ok}
use Rattle.basics.specs.Numbers.{NONE}
use Rattle.eviction.specs.Victim.{unpinned}
use Rattle.state.specs.declared.State.{State}
use Rattle.state.specs.Slots.{slot_at, is_clean}
use Rattle.maintenance_resize.specs.Answers.{resized, Resizing}
use Rattle.laws_table.specs.Table.{Absent}
use Rattle.laws_maintenance.specs.Calm.{Calm, Present, Full}

-- why the key of slot s is lost: "oldest unpinned keys are removed until the rest fits", so no unpinned key that stays was used before it;
-- or "those refused by a chain"
pub data Why (t n : State) (pins : List ℕ) (s : ℕ) : Type 0 where
  too_many! : n.capacity < t.clean
      → ((r : ℕ) → r < t.capacity → is_clean (slot_at t r) ≡ true → unpinned pins r ≡ true → Present n (slot_at t r).key
      → (slot_at t s).last_access ≤ (slot_at t r).last_access)
      → Why t n pins s
  full_chain! : Full n (slot_at t s).key → Why t n pins s

-- what became of the key in the clean slot s: it is in the slot that the list gives, with its last use;
-- or it is in no slot, the list says 65535, it had no pin, and the capacity fell
pub data Place (t n : State) (pins list : List ℕ) (s : ℕ) : Type 0 where
  kept! : get_or list s NONE < n.capacity → is_clean (slot_at n (get_or list s NONE)) ≡ true → (slot_at n (get_or list s NONE)).key ≡ (slot_at t s).key
      → (slot_at n (get_or list s NONE)).last_access ≡ (slot_at t s).last_access → Place t n pins list s
  lost! : get_or list s NONE ≡ NONE → Absent n (slot_at t s).key
      → unpinned pins s ≡ true → n.capacity < t.capacity → Why t n pins s → Place t n pins list s

-- the old slot to which the list gives the new slot x, and whose key and last use x has
pub record Source (t n : State) (list : List ℕ) (x : ℕ) : Type 0 where
  pub slot : ℕ
  pub low : slot < t.capacity
  pub clean : is_clean (slot_at t slot) ≡ true
  pub gives : get_or list slot NONE ≡ x
  pub key : (slot_at n x).key ≡ (slot_at t slot).key
  pub last : (slot_at n x).last_access ≡ (slot_at t slot).last_access
  pub zero : (slot_at n x).generation ≡ 0

-- the whole of it
pub record Remade (t : State) (pins : List ℕ) (r : Resizing) : Type 0 where
  pub quiet : t.loading ≡ 0
  pub calm : Calm r.table
  pub answer : r.answer ≡ ok (resized r.table.capacity)
  pub other : r.table.capacity ≡ t.capacity → ⊥
  pub size : length r.list ≡ t.capacity
  -- a slot that was not clean is given 65535
  pub plain : (s : ℕ) → is_clean (slot_at t s) ≡ false → get_or r.list s NONE ≡ NONE
  pub places : (s : ℕ) → s < t.capacity → is_clean (slot_at t s) ≡ true → Place t r.table pins r.list s
  pub sources : (x : ℕ) → x < r.table.capacity → is_clean (slot_at r.table x) ≡ true → Source t r.table r.list x
  pub uses : r.table.next_access_sequence ≡ t.next_access_sequence
  pub generations : r.table.next_load_generation ≡ t.next_load_generation
