-- SPDX-License-Identifier: Apache-2.0
-- Under the invariant the first test passes, clean slots are as many as the heap has, and stack, clean and loading slots make up the capacity;
-- and it holds of slots of which one is anew, with parts that fit it. Assumes nothing.
use Prim.Native.Nat.{ℕ, ◌+◌, ◌<◌, ◌≤◌}
use native.Mathlib.Omega.{arith}
use mathlib.Core.Path.{◌≡◌, sym, ap, ◌∙◌}
use mathlib.Core.Bool.{Bool, true, not}
use mathlib.Core.List.{List, map}
use lib.ListN.{length, get_or, set, length-set, length-map}
use borrow.Author.Tests.{lt-ltb, le-leb, eq-eqb, not-true}
use Rattle.basics.specs.Lists.{down}
use Rattle.basics.specs.Members.{Once}
use Rattle.basics.specs.Counts.{bit}
use Rattle.basics.proofs.Members.{in_map, map_in, once_map, in_down, down_in, once_down, down_length}
use Rattle.basics.proofs.Maps.{put}
use Rattle.basics.proofs.Keeps.{count_put, count_three, count_list}
use Rattle.key.specs.Bucket.{bucket_count}
use Rattle.index.specs.declared.Index.{Index}
use Rattle.eviction.specs.declared.EvictionHeap.{EvictionHeap}
use Rattle.eviction.specs.Entries.{at, pos_of}
use Rattle.state.specs.declared.Slot.{Slot}
use Rattle.state.specs.declared.State.{State}
use Rattle.state.specs.Slots.{vacant_slot, is_loading, is_clean, occupied}
use Rattle.state.specs.Fresh.{sound_sizes, sound}
use Rattle.laws_table.specs.Heap.{Heaped, Holds}
use Rattle.laws_table.specs.Chains.{Chains}
use Rattle.laws_table.specs.Stack.{stack_of, Stack}
use Rattle.laws_table.specs.Table.{last_of, bucket_for, last_in, bucket_in, how_many, Parts, Inv}
use Rattle.laws_table.proofs.SlotKinds.{bucket_vacant, bucket_none, last_clean, last_some, one_kind, slot_set}

-- ── the slots in the heap ──
-- the slots at the first n heap places
abbrev pub heap_slots : EvictionHeap → ℕ → List ℕ
heap_slots h n = map (λ (j : ℕ). (at h j).slot) (down n)

pub heap_length : (h : EvictionHeap) (n : ℕ) → length (heap_slots h n) ≡ n
heap_length h n = length-map (down n) (λ (j : ℕ). (at h j).slot) ∙ down_length n

module _ {ss : List Slot} {c : ℕ} {ix : Index} {h : EvictionHeap} {nc nl : ℕ} (v : Parts ss c ix h nc nl) where
  -- no slot stands twice
  pub heap_once : (n : ℕ) → n ≤ h.len → Once (heap_slots h n)
  heap_once n hn =
      once_map (λ (j : ℕ). (at h j).slot) (down n) (once_down n) (λ i j a b e.
      let hi = down_in n i a in
      let hj = down_in n j b in
      sym (v.heap.back i (omega arith)) ∙ ap (pos_of h) e ∙ v.heap.back j (omega arith))

  -- the slot at a heap place is clean, and the entry has its last use
  pub at_place : (j : ℕ) → j < h.len → ((at h j).slot < c) × (is_clean (get_or ss (at h j).slot vacant_slot) ≡ true) × ((get_or ss (at h j).slot vacant_slot).last_access ≡ (at h j).last_access)
  at_place j hj =
      let q = last_some (get_or ss (at h j).slot vacant_slot) (at h j).last_access (v.heap.last j hj) in
      (v.heap.low j hj, q.0, q.1)

  -- a clean slot has a heap place
  pub place_of_lem : (x : ℕ) → x < c → is_clean (get_or ss x vacant_slot) ≡ true → (pos_of h x < h.len) × ((at h (pos_of h x)).slot ≡ x)
  place_of_lem x hx e = v.heap.spot x (get_or ss x vacant_slot).last_access hx (last_clean (get_or ss x vacant_slot) e)

  -- clean slots are as many as the heap has
  pub clean_len : nc ≡ h.len
  clean_len =
      v.clean ∙ count_list (λ (x : ℕ). is_clean (get_or ss x vacant_slot)) c (heap_slots h h.len) (heap_once h.len (omega arith))
      (λ x m. let p = map_in (λ (j : ℕ). (at h j).slot) (down h.len) x m in
      let q = at_place p.0 (down_in h.len p.0 p.1) in
      rw p.2 (q.0, q.1))
      (λ x hx e. let q = place_of_lem x hx e in rw q.1 at (in_map (λ (j : ℕ). (at h j).slot) (in_down h.len (pos_of h x) q.0)))
      ∙ heap_length h h.len

  -- ── the slots on the stack ──
  stack_length : length (stack_of ix) ≡ ix.free_len
  stack_length = length-map (down ix.free_len) (λ (i : ℕ). get_or ix.free i 0) ∙ down_length ix.free_len

  -- vacant slots are as many as the stack has
  vacant_len : how_many (λ (s : Slot). not (occupied s)) ss c ≡ ix.free_len
  vacant_len =
      count_list (λ (x : ℕ). not (occupied (get_or ss x vacant_slot))) c (stack_of ix) v.stack.once
      (λ x m. (v.stack.low x m, rw (bucket_none ix.buckets (get_or ss x vacant_slot) (v.stack.empty x m))))
      (λ x hx e. v.stack.complete x hx (bucket_vacant ix.buckets (get_or ss x vacant_slot) (not-true (occupied (get_or ss x vacant_slot)) e)))
      ∙ stack_length

  -- stack, clean and loading slots make up the capacity
  pub slots_sum : ix.free_len + nc + nl ≡ c
  slots_sum =
      omega (
        arith,
        vacant_len,
        v.clean,
        v.loading,
        down_length c,
        count_three (λ (x : ℕ). not (occupied (get_or ss x vacant_slot))) (λ (x : ℕ). is_clean (get_or ss x vacant_slot)) (λ (x : ℕ). is_loading (get_or ss x vacant_slot)) (down c)
            (λ x. one_kind (get_or ss x vacant_slot)),
      )

  -- ── one slot anew ──
  module _ (x : ℕ) (s : Slot) (hx : x < c) where
    slot_low : x < length ss
    slot_low = omega (arith, v.size, v.small)

    -- a count differs by what was there and what is there
    pub count_anew : (p : Slot → Bool) → how_many p (set ss x s) c + bit (p (get_or ss x vacant_slot)) ≡ how_many p ss c + bit (p s)
    count_anew p = rw (slot_set p ss x s slot_low) (count_put (λ (y : ℕ). p (get_or ss y vacant_slot)) (p s) x c hx)

    pub inv_set : (iy : Index) (k : EvictionHeap) (mc ml : ℕ) → iy.buckets ≡ ix.buckets
        → Chains c iy (put x (bucket_for ix.buckets s) (bucket_in ix.buckets ss))
        → Stack c iy (put x (bucket_for ix.buckets s) (bucket_in ix.buckets ss))
        → Holds c k (put x (last_of s) (last_in ss))
        → Heaped k
        → mc + bit (is_clean (get_or ss x vacant_slot)) ≡ nc + bit (is_clean s)
        → ml + bit (is_loading (get_or ss x vacant_slot)) ≡ nl + bit (is_loading s)
        → Parts (set ss x s) c iy k mc ml
    inv_set iy k mc ml eb ch st ho he ec el =
        let buckets : bucket_in iy.buckets (set ss x s) ≡ put x (bucket_for ix.buckets s) (bucket_in ix.buckets ss) = rw eb (slot_set (bucket_for ix.buckets) ss x s slot_low) in
        record {
          pos = v.pos;
          small = v.small;
          size = rw length-set v.size;
          rule = eb ∙ v.rule;
          chains = rw buckets ch;
          stack = rw buckets st;
          heap = rw (slot_set last_of ss x s slot_low) ho;
          heaped = he;
          clean = omega (arith, count_anew is_clean, v.clean);
          loading = omega (arith, count_anew is_loading, v.loading);
        }

-- "which is tested first in every call on a table"
pub sound_inv : (t : State) → Inv t → sound t ≡ true
unfolding sound_sizes
sound_inv t v =
    rw (lt-ltb 0 t.capacity (omega (arith, v.pos)), le-leb t.capacity 256 v.small, eq-eqb t.index.buckets (bucket_count t.capacity) v.rule, le-leb t.index.free_len t.capacity (omega (arith, v.stack.fits)), le-leb t.eviction.len t.capacity v.heap.fits)
