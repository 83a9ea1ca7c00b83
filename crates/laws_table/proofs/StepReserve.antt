-- SPDX-License-Identifier: Apache-2.0
-- A reservation in the slot on top of the stack, or in a clean slot, does not stop where the key's chain has room and both numbers are left:
-- the slot is loading after, and no other changes. Assumes nothing.
use Prim.Native.Nat.{ℕ, ◌+◌, ◌-◌, ◌<◌}
use native.Mathlib.Omega.{arith}
use mathlib.Core.Path.{◌≡◌, refl, sym, ◌∙◌}
use mathlib.Core.Bool.{true, false}
use mathlib.Core.List.{List}
use mathlib.Core.Option.{Option, none, some}
use lib.Dec.{eqb}
use lib.ListN.{length, set}
use borrow.Author.Tests.{eqb-true, lt-ltb, ne_eqb}
use Rattle.basics.specs.Try.{ok}
use Rattle.basics.specs.Numbers.{MAX}
use Rattle.basics.specs.Members.{In, here}
use Rattle.basics.proofs.Tests.{yes!, no!, is}
use Rattle.basics.proofs.Members.{cut_length}
use Rattle.basics.proofs.Maps.{put, put_here, put_same, put_put}
use Rattle.key.specs.declared.CacheKey.{CacheKey}
use Rattle.key.specs.Bucket.{bucket_of}
use Rattle.index.specs.Chain.{CHAIN, insert_index, remove_index}
use Rattle.state.specs.declared.Slot.{Slot}
use Rattle.state.specs.declared.State.{State}
use Rattle.state.specs.Slots.{slot_at, loading_slot, is_clean, occupied}
use Rattle.state.specs.Answers.{reserved, evicted, told}
use Rattle.state.specs.Access.{take_top, evict, free, next_token, load_into, occupy, reserve}
use Rattle.laws_table.specs.Stack.{stack_of}
use Rattle.laws_table.specs.Table.{bucket_for, bucket_in, last_of, last_in, Inv, Step}
use Rattle.laws_table.proofs.ChainInsert.{Inserted, insert_index_lem}
use Rattle.laws_table.proofs.ChainRemove.{Removed}
use Rattle.laws_table.proofs.Stacks.{top_of, popped, stack_popped, chains_stack, take_vacant_lem, stack_pop, stack_held, stack_same}
use Rattle.laws_table.proofs.SlotKinds.{clean_occupied, clean_not_loading, loading_occupied, vacant_neither, bucket_occupied, bucket_none, last_none}
use Rattle.laws_table.proofs.TableParts.{inv_set, slots_sum}
use Rattle.laws_table.proofs.StepParts.{stepped, has_bucket, clean_pos, out_of_heap, out_of_chain}

-- the chain of a key's bucket
abbrev pub chain_of : (t : State) → Inv t → CacheKey → List ℕ
chain_of t v key = v.chains.chain (bucket_of key t.index.buckets)

stack_top : (t : State) → Inv t → 0 < t.index.free_len → In (top_of t.index) (stack_of t.index)
stack_top t v hv = rw (stack_popped t.index hv) here

-- the slot on top of the stack is below the capacity, and vacant
pub top_vacant_lem : (t : State) → Inv t → 0 < t.index.free_len → (top_of t.index < t.capacity) × (occupied (slot_at t (top_of t.index)) ≡ false)
top_vacant_lem t v hv =
    let m = stack_top t v hv in
    (v.stack.low (top_of t.index) m, bucket_none t.index.buckets (slot_at t (top_of t.index)) (v.stack.empty (top_of t.index) m))

module _ (t : State) (v : Inv t) (key : CacheKey) (room : length (chain_of t v key) < CHAIN) (hu : t.next_access_sequence ≡ MAX → ⊥) (hg : t.next_load_generation ≡ MAX → ⊥) where
  loading_left : t.loading ≡ MAX → ⊥
  loading_left e = omega (arith, slots_sum v, v.small)

  -- "the top of the free stack"
  pub take_step : 0 < t.index.free_len
      → (u : State) × (reserve t key (top_of t.index) ≡ ok (told u (reserved (next_token t key (top_of t.index)))))
      × Step t u (top_of t.index) (loading_slot key (t.next_load_generation + 1)) (t.next_access_sequence + 1) (t.next_load_generation + 1) t.clean (t.loading + 1)
  unfolding reserve occupy free take_top load_into
  take_step hv =
      let c = t.capacity in
      let x : ℕ = top_of t.index in
      let n : ℕ = t.index.buckets in
      let (hx, ho) = top_vacant_lem t v hv in
      let kinds = vacant_neither (slot_at t x) ho in
      let s : Slot = loading_slot key (t.next_load_generation + 1) in
      let gx : bucket_in n t.slots x ≡ none = v.stack.empty x (stack_top t v hv) in
      let ins : Inserted c (popped t.index) (bucket_in n t.slots) (chains_stack (set t.index.free (t.index.free_len - 1) 0) (t.index.free_len - 1) v.chains) x (bucket_of key n) (insert_index c (popped t.index) key x) =
      insert_index_lem c (popped t.index) (bucket_in n t.slots) (chains_stack (set t.index.free (t.index.free_len - 1) 0) (t.index.free_len - 1) v.chains) key x hx gx (omega (arith, v.stack.fits)) room in
      let b : bucket_for n s ≡ some (bucket_of key n) = bucket_occupied n s (loading_occupied s refl) in
      let hf : put x (last_of s) (last_in t.slots) ≡ last_in t.slots = put_same x (last_of s) (last_in t.slots) (last_none (slot_at t x) kinds.1 ∙ sym (last_none s refl)) in (
        load_into t (record { index = popped t.index; heap = t.eviction; clean = t.clean; left = false }) ins.index key x,
        rw (ne_eqb t.next_load_generation MAX hg, ne_eqb t.next_access_sequence MAX hu, lt-ltb x c hx, kinds.0, kinds.1, take_vacant_lem c t.index (bucket_in n t.slots) v.chains x v.stack.fits hv refl, ins.gives, ne_eqb t.loading MAX loading_left),
        stepped (inv_set v x s hx ins.index t.eviction t.clean (t.loading + 1) ins.buckets (rw b ins.chains) (rw b (stack_same ins.free ins.free_len_lem (stack_pop (bucket_of key n) hv v.stack)))
            (rw hf v.heap) v.heaped (rw kinds.1 refl) (rw kinds.0 (omega arith))) hx refl refl,
      )

  -- a clean slot's key leaves: the new key's chain still has room
  still_room : (x b : ℕ) (r : Removed t.capacity t.index (bucket_in t.index.buckets t.slots) v.chains x b (remove_index t.capacity t.index (slot_at t x).key x)) → length (r.chains.chain (bucket_of key t.index.buckets)) < CHAIN
  still_room x b r =
      rw r.cuts (elim (is (eqb (bucket_of key t.index.buckets) b)) [
        | yes! e ↦ rw (e, ← eqb-true (bucket_of key t.index.buckets) b e) (omega (arith, cut_length x (chain_of t v key)))
        | no! e ↦ rw e room
      ])

  pub evict_step : (x : ℕ) → x < t.capacity → is_clean (slot_at t x) ≡ true
      → (u : State) × (reserve t key x ≡ ok (told u (evicted (next_token t key x))))
      × Step t u x (loading_slot key (t.next_load_generation + 1)) (t.next_access_sequence + 1) (t.next_load_generation + 1) (t.clean - 1) (t.loading + 1)
  unfolding reserve occupy free evict load_into
  evict_step x hx ec =
      let c = t.capacity in
      let n : ℕ = t.index.buckets in
      let g : ℕ → Option ℕ = bucket_in n t.slots in
      let pos = clean_pos t v x hx ec in
      let ho = clean_occupied (slot_at t x) ec in
      let sf = out_of_heap t v x hx ec in
      let s : Slot = loading_slot key (t.next_load_generation + 1) in
      let r = out_of_chain t v x hx (slot_at t x).key ho refl in
      let ins : Inserted c r.index (put x none g) r.chains x (bucket_of key r.index.buckets) (insert_index c r.index key x) =
      insert_index_lem c r.index (put x none g) r.chains key x hx (put_here x none g) (omega (arith, r.free_len_lem, v.stack.fits)) (rw r.buckets (still_room x (bucket_of (slot_at t x).key n) r)) in
      let b : bucket_for n s ≡ some (bucket_of key n) = bucket_occupied n s (loading_occupied s refl) in
      let gg : put x (bucket_for n s) g ≡ put x (some (bucket_of key r.index.buckets)) (put x none g) = rw (b, r.buckets) (sym (put_put x (some (bucket_of key n)) none g)) in (
        load_into t (record { index = r.index; heap = sf.heap; clean = t.clean - 1; left = true }) ins.index key x,
        rw (ne_eqb t.next_load_generation MAX hg, ne_eqb t.next_access_sequence MAX hu, lt-ltb x c hx, clean_not_loading (slot_at t x) ec, ec, sf.gives, r.gives, lt-ltb 0 t.clean pos, ins.gives, ne_eqb t.loading MAX loading_left),
        stepped (inv_set v x s hx ins.index sf.heap (t.clean - 1) (t.loading + 1) (ins.buckets ∙ r.buckets) (rw gg ins.chains)
            (rw b (stack_held x (bucket_of key n) (has_bucket t v x hx ho) (stack_same {ix = r.index} ins.free ins.free_len_lem (stack_same r.free r.free_len_lem v.stack))))
            (rw (last_none s refl) sf.holds) sf.heaped (rw ec (omega arith)) (rw (clean_not_loading (slot_at t x) ec) (omega arith))) hx refl refl,
      )
