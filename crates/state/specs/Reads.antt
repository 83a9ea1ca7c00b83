-- SPDX-License-Identifier: Apache-2.0
-- "Validate, peek_clean, clean_entry, oldest_clean and cold_candidate read only."
use Rattle.std.specs.Prelude.{ℕ, zero, suc, ◌&&◌, ltb, leb, eqb, if◌then◌else◌}
use Rattle.std.proofs.Math.Option.{Option, none, some}
use Rattle.basics.specs.Try.{Try, ok, refuse, ◌>>◌, need}
use Rattle.basics.specs.Refusals.{STOP, STALE}
use Rattle.basics.specs.Numbers.{NONE}
use Rattle.basics.specs.Answers.{Fine, done}
use Rattle.key.specs.declared.CacheKey.{CacheKey}
use Rattle.index.specs.Chain.{CHAIN, head_of, next_of, length_of}
use Rattle.eviction.specs.Victim.{candidate_at, oldest_of}
use Rattle.state.specs.declared.State.{State}
use Rattle.state.specs.declared.LoadToken.{LoadToken}
use Rattle.state.specs.Slots.{slot_at, is_clean, clean_with}
use Rattle.state.specs.Answers.{KeyUse}
use Rattle.state.specs.Fresh.{sound}
use Rattle.state.specs.Find.{ended}
use Rattle.state.specs.Tokens.{outstanding}

-- `validate`
unfoldable pub validate : State → LoadToken → Try Fine
validate t k = do
  need (sound t) STOP
  need (outstanding t k) STALE
  ok done

-- `peek_clean`: the slot of the chain, from `slot` on, that is clean with the key; the end of the chain as in `find_from`
unfoldable pub peek_from : ℕ → State → CacheKey → ℕ → Try (Option ℕ)
peek_from zero t key slot = if eqb slot NONE then ended (length_of t.index key) 0 else refuse STOP
peek_from (suc left) t key slot =
    if eqb slot NONE then ended (length_of t.index key) (suc left) else
    if leb t.capacity slot then refuse STOP else
    if clean_with (slot_at t slot) key then ok (some slot) else
    peek_from left t key (next_of t.index slot)

-- `peek_clean`, from the head of the key's chain
unfoldable pub peek_clean : State → CacheKey → Try (Option ℕ)
peek_clean t key = do
  need (sound t) STOP
  peek_from CHAIN t key (head_of t.index key)

-- `clean_entry`: none for a slot that is not clean, or not below the capacity
unfoldable pub clean_entry : State → ℕ → Try (Option KeyUse)
clean_entry t slot = do
  need (sound t) STOP
  if ltb slot t.capacity && is_clean (slot_at t slot) then ok (some (record { key = (slot_at t slot).key; last = (slot_at t slot).last_access })) else ok none

-- `cold_candidate`: the slot at a heap place
unfoldable pub cold_candidate : State → ℕ → Try (Option ℕ)
cold_candidate t i = do
  need (sound t) STOP
  candidate_at t.capacity t.eviction i

-- `oldest_clean`: the slot at the heap's root
unfoldable pub oldest_clean : State → Try (Option ℕ)
oldest_clean t = do
  need (sound t) STOP
  oldest_of t.capacity t.eviction
