-- SPDX-License-Identifier: Apache-2.0
-- What an access to an absent key comes to. Assumes nothing.
use Prim.Native.Nat.{ℕ, ◌+◌, ◌-◌, ◌<◌, ◌≤◌, min}
use native.Mathlib.Omega.{arith}
use mathlib.Core.Path.{◌≡◌, refl}
use mathlib.Core.Bool.{Bool, true, false}
use mathlib.Core.List.{List}
use lib.Dec.{ltb, eqb}
use lib.ListN.{length}
use borrow.Author.Tests.{eqb-true, eqb-false, ltb-true, ltb-false}
use Rattle.basics.specs.Try.{Try, ok, refuse, ◌>>=◌}
use Rattle.basics.specs.Refusals.{EXHAUSTED}
use Rattle.basics.specs.Numbers.{MAX}
use Rattle.basics.proofs.Tests.{yes!, no!, is}
use Rattle.key.specs.declared.CacheKey.{CacheKey}
use Rattle.index.specs.Chain.{CHAIN}
use Rattle.eviction.specs.Entries.{at}
use Rattle.eviction.specs.Victim.{unpinned}
use Rattle.state.specs.declared.State.{State}
use Rattle.state.specs.Slots.{slot_at, loading_slot, is_clean, occupied}
use Rattle.state.specs.Parts.{with_numbers}
use Rattle.state.specs.Answers.{Given, reserved, evicted, After, told}
use Rattle.state.specs.Victim.{PLACES, victim, target_or, target}
use Rattle.state.specs.Access.{next_token, reserve, capacity_busy, reserve_at, choose, miss}
use Rattle.laws_table.specs.Table.{bucket_in, last_in, Inv, Step}
use Rattle.laws_table.proofs.ChainWalks.{can_insert_lem}
use Rattle.laws_table.proofs.Stacks.{top_of, vacant_top, vacant_none}
use Rattle.laws_table.proofs.TableParts.{at_place}
use Rattle.laws_table.proofs.StepReserve.{chain_of, top_vacant_lem, take_step, evict_step}
use Rattle.laws_table.proofs.VictimSearch.{nobody!, somebody!, victim_found}

pub data Missed (t : State) (v : Inv t) (key : CacheKey) (allow : Bool) (pins : List ℕ) (r : Try (After Given)) : Type 0 where
  -- loading not allowed
  barred! : allow ≡ false → r ≡ ok (capacity_busy t) → Missed t v key allow pins r
  -- 64 slots in its chain
  full! : allow ≡ true → CHAIN ≤ length (chain_of t v key) → r ≡ ok (capacity_busy t) → Missed t v key allow pins r
  -- nothing on the stack, and every place looked at is pinned
  pinned! : allow ≡ true → length (chain_of t v key) < CHAIN → t.index.free_len ≡ 0 → ((j : ℕ) → j < min t.clean PLACES → j < t.eviction.len → unpinned pins (at t.eviction j).slot ≡ false) → r ≡ ok (capacity_busy t)
      → Missed t v key allow pins r
  -- the top of the stack is taken
  takes! : allow ≡ true → length (chain_of t v key) < CHAIN → 0 < t.index.free_len → occupied (slot_at t (top_of t.index)) ≡ false → (u : State) → r ≡ ok (told u (reserved (next_token t key (top_of t.index))))
      → Step t u (top_of t.index) (loading_slot key (t.next_load_generation + 1)) (t.next_access_sequence + 1) (t.next_load_generation + 1) t.clean (t.loading + 1) → Missed t v key allow pins r
  -- nothing on the stack: the key at the first unpinned place goes
  evicts! : allow ≡ true → length (chain_of t v key) < CHAIN → t.index.free_len ≡ 0 → (j : ℕ) → j < PLACES → j < t.eviction.len → unpinned pins (at t.eviction j).slot ≡ true
      → ((k : ℕ) → k < j → unpinned pins (at t.eviction k).slot ≡ false) → is_clean (slot_at t (at t.eviction j).slot) ≡ true → (u : State) → r ≡ ok (told u (evicted (next_token t key (at t.eviction j).slot)))
      → Step t u (at t.eviction j).slot (loading_slot key (t.next_load_generation + 1)) (t.next_access_sequence + 1) (t.next_load_generation + 1) (t.clean - 1) (t.loading + 1) → Missed t v key allow pins r
  -- 7 for the generation, and 7 for the use number
  spent_generation! : t.next_load_generation ≡ MAX → r ≡ refuse EXHAUSTED → Missed t v key allow pins r
  spent_use! : t.next_access_sequence ≡ MAX → (t.next_load_generation ≡ MAX → ⊥) → r ≡ ok (record { table = with_numbers t (t.next_load_generation + 1) t.next_access_sequence; answer = refuse EXHAUSTED })
      → Missed t v key allow pins r

module _ (t : State) (v : Inv t) (key : CacheKey) (pins : List ℕ) where
  -- a reservation for which both numbers are left, or not
  reserving : (x : ℕ) → ((t.next_access_sequence ≡ MAX → ⊥) → (t.next_load_generation ≡ MAX → ⊥) → Missed t v key true pins (reserve t key x)) → Missed t v key true pins (reserve t key x)
  unfolding reserve
  reserving x go =
      elim (is (eqb t.next_load_generation MAX)) [
        | yes! e ↦ rw e (spent_generation! (eqb-true t.next_load_generation MAX e) refl)
        | no! e ↦ elim (is (eqb t.next_access_sequence MAX)) [
          | yes! q ↦ rw (e, q) (spent_use! (eqb-true t.next_access_sequence MAX q) (eqb-false t.next_load_generation MAX e) refl)
          | no! q ↦ go (eqb-false t.next_access_sequence MAX q) (eqb-false t.next_load_generation MAX e)
        ]
      ]

  -- the stack has a slot
  missed_stack : length (chain_of t v key) < CHAIN → 0 < t.index.free_len → Missed t v key true pins (reserve t key (top_of t.index))
  missed_stack room hv =
      reserving (top_of t.index) (λ hu hg. let (u, e, s) = take_step t v key room hu hg hv in takes! refl room hv (top_vacant_lem t v hv).1 u e s)

  -- it has none
  missed_heap : length pins ≡ t.capacity → length (chain_of t v key) < CHAIN → t.index.free_len ≡ 0 → Missed t v key true pins (victim t.capacity t.eviction t.clean pins >>= reserve_at t key)
  unfolding reserve_at
  missed_heap lp room hv =
      elim (victim_found t.capacity t.eviction (last_in t.slots) v.heap pins t.clean lp) [
        | nobody! n e ↦ rw e (pinned! refl room hv (λ j a b. n j (omega arith) (omega arith) b) refl)
        | somebody! j a b hj f n e ↦
            let p = at_place v j hj in
            rw e (reserving (at t.eviction j).slot (λ hu hg. let (u, q, s) = evict_step t v key room hu hg (at t.eviction j).slot p.0 p.1 in evicts! refl room hv j (omega arith) hj f (λ k d. n k (omega arith) d) p.1 u q s))
      ]

  pub missed : (allow : Bool) → length pins ≡ t.capacity → Missed t v key allow pins (miss t key allow pins)
  unfolding miss choose target target_or reserve_at
  missed false lp = barred! refl refl
  missed true lp =
      rw (can_insert_lem t.capacity t.index (bucket_in t.index.buckets t.slots) v.chains v.stack.fits key) (elim (is (ltb (length (chain_of t v key)) CHAIN)) [
        | no! e ↦ rw e (full! refl (ltb-false (length (chain_of t v key)) CHAIN e) refl)
        | yes! e ↦
            let room : length (chain_of t v key) < CHAIN = ltb-true (length (chain_of t v key)) CHAIN e in
            elim (is (eqb t.index.free_len 0)) [
              | no! q ↦
                  let hv : 0 < t.index.free_len = omega (arith, eqb-false t.index.free_len 0 q) in
                  rw (e, vacant_top t.capacity t.index (bucket_in t.index.buckets t.slots) v.chains v.stack.fits hv) (missed_stack room hv)
              | yes! q ↦
                  let hv : t.index.free_len ≡ 0 = eqb-true t.index.free_len 0 q in
                  rw (e, vacant_none t.capacity t.index (bucket_in t.index.buckets t.slots) v.chains hv) (missed_heap lp room hv)
            ]
      ])
