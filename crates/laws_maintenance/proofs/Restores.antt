-- SPDX-License-Identifier: Apache-2.0
-- `restore_clean` does not stop: a slot that was vacant is clean with the key after, and no other changes; or nothing is done, for a chain of
-- 64 slots or no vacant slot. Assumes nothing.
use Prim.Native.Nat.{ℕ, ◌+◌, ◌-◌, ◌<◌, ◌≤◌}
use native.Mathlib.Omega.{arith}
use mathlib.Core.Path.{◌≡◌, refl}
use mathlib.Core.Bool.{false}
use mathlib.Core.Option.{Option, none, some}
use lib.Dec.{ltb, eqb}
use lib.ListN.{length, set}
use borrow.Author.Tests.{eqb-true, eqb-false, ltb-true, ltb-false, lt-ltb, ne_eqb}
use Rattle.basics.specs.Try.{Try, ok}
use Rattle.basics.specs.Numbers.{MAX}
use Rattle.basics.proofs.Tests.{yes!, no!, is}
use Rattle.basics.proofs.Maps.{put}
use Rattle.key.specs.declared.CacheKey.{CacheKey}
use Rattle.key.specs.Bucket.{bucket_of}
use Rattle.index.specs.Chain.{CHAIN, insert_index}
use Rattle.eviction.specs.Heap.{insert_heap}
use Rattle.state.specs.declared.Slot.{Slot}
use Rattle.state.specs.declared.State.{State}
use Rattle.state.specs.Slots.{slot_at, clean_slot, occupied}
use Rattle.state.specs.Parts.{with_slot, with_index, with_heap, with_held}
use Rattle.maintenance_restore.specs.Restore.{restore_into, restore}
use Rattle.laws_table.specs.Table.{bucket_for, bucket_in, last_in, Inv, Step}
use Rattle.laws_table.proofs.Sifts.{Sifted}
use Rattle.laws_table.proofs.HeapInsert.{insert_heap_lem}
use Rattle.laws_table.proofs.ChainInsert.{Inserted, insert_index_lem}
use Rattle.laws_table.proofs.ChainWalks.{can_insert_lem}
use Rattle.laws_table.proofs.Stacks.{top_of, popped, chains_stack, take_vacant_lem, vacant_top, vacant_none, stack_pop, stack_same}
use Rattle.laws_table.proofs.SlotKinds.{clean_occupied, vacant_neither, bucket_occupied, bucket_vacant, last_clean, last_none}
use Rattle.laws_table.proofs.TableParts.{inv_set, clean_len, slots_sum}
use Rattle.laws_table.proofs.StepParts.{stepped}
use Rattle.laws_table.proofs.StepReserve.{chain_of, top_vacant_lem}

pub data Restored (t : State) (v : Inv t) (key : CacheKey) (n : ℕ) (r : Try (Option State)) : Type 0 where
  full! : CHAIN ≤ length (chain_of t v key) → r ≡ ok none → Restored t v key n r
  no_slot! : t.index.free_len ≡ 0 → r ≡ ok none → Restored t v key n r
  restored! : (x : ℕ) → occupied (slot_at t x) ≡ false → (u : State) → r ≡ ok (some u)
      → Step t u x (clean_slot key n) t.next_access_sequence t.next_load_generation (t.clean + 1) t.loading → Restored t v key n r

module _ (t : State) (v : Inv t) (key : CacheKey) (n : ℕ) where
  -- the chain has room and the stack a slot
  restore_step : length (chain_of t v key) < CHAIN → 0 < t.index.free_len
      → (u : State) × (restore t key n ≡ ok (some u)) × Step t u (top_of t.index) (clean_slot key n) t.next_access_sequence t.next_load_generation (t.clean + 1) t.loading
  unfolding restore restore_into
  restore_step room hv =
      let c = t.capacity in
      let x : ℕ = top_of t.index in
      let b : ℕ = t.index.buckets in
      let g : ℕ → Option ℕ = bucket_in b t.slots in
      let (hx, ho) = top_vacant_lem t v hv in
      let kinds = vacant_neither (slot_at t x) ho in
      let s : Slot = clean_slot key n in
      let gx : g x ≡ none = bucket_vacant b (slot_at t x) ho in
      let chains = chains_stack (set t.index.free (t.index.free_len - 1) 0) (t.index.free_len - 1) v.chains in
      let ins : Inserted c (popped t.index) g chains x (bucket_of key b) (insert_index c (popped t.index) key x) = insert_index_lem c (popped t.index) g chains key x hx gx (omega (arith, v.stack.fits)) room in
      let sf : Sifted c (put x (some n) (last_in t.slots)) (t.eviction.len + 1) (insert_heap c t.eviction x n) = insert_heap_lem c t.eviction (last_in t.slots) v.heap x n hx (last_none (slot_at t x) kinds.1) (omega (arith, slots_sum v, clean_len v)) v.heaped in
      let eb : bucket_for b s ≡ some (bucket_of key b) = bucket_occupied b s (clean_occupied s refl) in (
        with_held (with_heap (with_index (with_slot t x s) ins.index) sf.heap) (t.clean + 1) t.loading,
        rw (can_insert_lem c t.index g v.chains v.stack.fits key, lt-ltb (length (chain_of t v key)) CHAIN room, vacant_top c t.index g v.chains v.stack.fits hv, take_vacant_lem c t.index g v.chains x v.stack.fits hv refl, ins.gives, sf.gives, ne_eqb t.clean MAX (omega (arith, slots_sum v, v.small))),
        stepped (inv_set v x s hx ins.index sf.heap (t.clean + 1) t.loading ins.buckets (rw eb ins.chains) (rw eb (stack_same ins.free ins.free_len_lem (stack_pop (bucket_of key b) hv v.stack)))
            (rw (last_clean s refl) sf.holds) sf.heaped (rw kinds.1 (omega arith)) (rw kinds.0 (omega arith))) hx refl refl,
      )

  pub restored : Restored t v key n (restore t key n)
  unfolding restore restore_into
  restored =
      elim (is (ltb (length (chain_of t v key)) CHAIN)) [
        | no! q ↦ full! (ltb-false (length (chain_of t v key)) CHAIN q) (rw (can_insert_lem t.capacity t.index (bucket_in t.index.buckets t.slots) v.chains v.stack.fits key, q))
        | yes! q ↦ elim (is (eqb t.index.free_len 0)) [
          | yes! e ↦
              let hv = eqb-true t.index.free_len 0 e in
              no_slot! hv (rw (can_insert_lem t.capacity t.index (bucket_in t.index.buckets t.slots) v.chains v.stack.fits key, q, vacant_none t.capacity t.index (bucket_in t.index.buckets t.slots) v.chains hv))
          | no! e ↦
              let hv : 0 < t.index.free_len = omega (arith, eqb-false t.index.free_len 0 e) in
              let (u, z, p) = restore_step (ltb-true (length (chain_of t v key)) CHAIN q) hv in
              restored! (top_of t.index) (top_vacant_lem t v hv).1 u z p
        ]
      ]
