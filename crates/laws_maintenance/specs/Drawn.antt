-- SPDX-License-Identifier: Apache-2.0
-- A table whose keys all come from another: what resize makes, at each of its steps.
use Rattle.std.specs.Prelude.{ℕ, ◌<◌, ◌≡◌, true, false, List}
use Rattle.eviction.specs.Victim.{unpinned}
use Rattle.state.specs.declared.State.{State}
use Rattle.state.specs.Slots.{slot_at, is_clean}
use Rattle.laws_table.specs.Table.{Absent}
use Rattle.laws_maintenance.specs.Calm.{Calm, Full}

-- the slot of o that the key and the last use of the slot x of n come from
pub record Origin (o n : State) (x : ℕ) : Type 0 where
  pub slot : ℕ
  pub low : slot < o.capacity
  pub clean : is_clean (slot_at o slot) ≡ true
  pub key : (slot_at n x).key ≡ (slot_at o slot).key
  pub last : (slot_at n x).last_access ≡ (slot_at o slot).last_access
  pub zero : (slot_at n x).generation ≡ 0

-- each key of n has an origin in o
pub record Drawn (o n : State) : Type 0 where
  pub calm : Calm n
  pub origin : (x : ℕ) → x < n.capacity → is_clean (slot_at n x) ≡ true → Origin o n x

-- a pinned key of t whose chain is full in a table of capacity c that holds other keys of t
pub record Chokes (t : State) (pins : List ℕ) (c : ℕ) : Type 0 where
  pub table : State
  pub drawn : Drawn t table
  pub capacity : table.capacity ≡ c
  pub slot : ℕ
  pub low : slot < t.capacity
  pub pin : unpinned pins slot ≡ false
  pub clean : is_clean (slot_at t slot) ≡ true
  pub absent : Absent table (slot_at t slot).key
  pub full : Full table (slot_at t slot).key
