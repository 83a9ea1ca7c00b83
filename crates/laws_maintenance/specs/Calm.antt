-- SPDX-License-Identifier: Apache-2.0
-- Tables without a loading slot, such as resize works on; and a key that a table has.
use Rattle.std.specs.Prelude.{ℕ, ◌<◌, ◌≡◌, true, false}
use Rattle.basics.specs.Try.{ok}
use Rattle.key.specs.declared.CacheKey.{CacheKey}
use Rattle.index.specs.Chain.{can_insert}
use Rattle.state.specs.declared.State.{State}
use Rattle.state.specs.Slots.{slot_at, is_clean}
use Rattle.laws_table.specs.Table.{Inv, Distinct}

-- the invariant, no slot loading, no key twice
pub record Calm (t : State) : Type 0 where
  pub inv : Inv t
  pub quiet : t.loading ≡ 0
  pub distinct : Distinct t.slots t.capacity

-- a clean slot with the key k
pub record Present (t : State) (k : CacheKey) : Type 0 where
  pub slot : ℕ
  pub low : slot < t.capacity
  pub clean : is_clean (slot_at t slot) ≡ true
  pub key : (slot_at t slot).key ≡ k

-- the chain of the key takes no more, as the table's own test says
abbrev pub Full : State → CacheKey → Type 0
Full t key = can_insert t.capacity t.index key ≡ ok false
