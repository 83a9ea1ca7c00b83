-- SPDX-License-Identifier: Apache-2.0
-- What removals xs from a table t leave, slot by slot: u.
use Rattle.std.specs.Prelude.{ℕ, ◌+◌, ◌<◌, ◌≡◌, true, List, length}
use Rattle.basics.specs.Members.{In, Once}
use Rattle.eviction.specs.Victim.{unpinned}
use Rattle.state.specs.declared.State.{State}
use Rattle.state.specs.Slots.{slot_at, vacant_slot, is_clean}
use Rattle.laws_table.specs.Table.{Inv}

pub record Reclaimed (t : State) (pins : List ℕ) (u : State) (xs : List ℕ) : Type 0 where
  pub inv : Inv u
  pub capacity : u.capacity ≡ t.capacity
  pub clean : u.clean + length xs ≡ t.clean
  pub loading : u.loading ≡ t.loading
  pub uses : u.next_access_sequence ≡ t.next_access_sequence
  pub generations : u.next_load_generation ≡ t.next_load_generation
  -- each slot removed was below the capacity, clean and unpinned, is vacant now, and is named once
  pub low : (s : ℕ) → In s xs → s < t.capacity
  pub held : (s : ℕ) → In s xs → is_clean (slot_at t s) ≡ true
  pub free : (s : ℕ) → In s xs → unpinned pins s ≡ true
  pub out : (s : ℕ) → In s xs → slot_at u s ≡ vacant_slot
  pub once : Once xs
  -- the others are as they were
  pub stays : (s : ℕ) → (In s xs → ⊥) → slot_at u s ≡ slot_at t s
