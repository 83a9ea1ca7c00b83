-- SPDX-License-Identifier: Apache-2.0
-- What stands between two records of a run sheet.
use Rattle.std.specs.Prelude.{ℕ, ◌≤◌, ◌<◌, ◌≡◌, true, false, Option as Maybe, List, length, get_or}
use Rattle.eviction.specs.Victim.{unpinned}
use Rattle.state.specs.declared.State.{State}
use Rattle.state.specs.declared.LoadToken.{LoadToken}
use Rattle.state.specs.Slots.{slot_at, is_clean}
use Rattle.laws_table.specs.Table.{Valid}
use Rattle.sheet_standing.specs.declared.Standing.{Standing}
use Rattle.sheet_steps.specs.Standing.{start, empty_place, holding}

-- no token in a place has a use number above the last that the table gave
abbrev pub GivenTokens : State → List (Maybe LoadToken) → Type 0
GivenTokens t places = (place : ℕ) (k : LoadToken) → get_or places place empty_place ≡ holding k → k.access_sequence ≤ t.next_access_sequence

-- a valid table, so one of 1 to 256 slots; its pins, a byte for each slot of the largest table, 0 or 1, and 1 only on a clean slot;
-- and its token places
pub record InOrder (t : State) (pins : List ℕ) (places : List (Maybe LoadToken)) : Type 0 where
  pub valid : Valid t
  pub size : length pins ≡ 256
  pub bit : (x : ℕ) → get_or pins x 0 ≤ 1
  pub low : (x : ℕ) → unpinned pins x ≡ false → x < t.capacity
  pub clean : (x : ℕ) → unpinned pins x ≡ false → is_clean (slot_at t x) ≡ true
  pub given : GivenTokens t places

-- before the first `made` all is as at the start: no table, no pins, no tokens
pub data Orderly (s : Standing) : Type 0 where
  unmade! : s ≡ start → Orderly s
  made! : s.stands ≡ true → InOrder s.state s.pins s.places → Orderly s

-- what the table has counted before the record n: each record takes at most one number of each kind
pub record Counted (n : ℕ) (t : State) : Type 0 where
  pub uses : t.next_access_sequence ≤ n
  pub generations : t.next_load_generation ≤ n
