-- SPDX-License-Identifier: Apache-2.0
-- What the steps on one slot share: the slot leaves its chain and goes on the stack, or the heap; and the counts allow it. Assumes nothing.
use Prim.Native.Nat.{ℕ, ◌+◌, ◌-◌, ◌<◌}
use native.Mathlib.Omega.{arith}
use mathlib.Core.Path.{◌≡◌, refl, sym, ap, ◌∙◌}
use mathlib.Core.Bool.{true}
use mathlib.Core.Option.{Option, none, some}
use lib.ListN.{set}
use Rattle.basics.specs.Try.{ok}
use Rattle.basics.specs.Counts.{bit}
use Rattle.basics.proofs.Tests.{yes!, no!, is, none_some}
use Rattle.basics.proofs.Maps.{put, put_here, put_same}
use Rattle.key.specs.declared.CacheKey.{CacheKey}
use Rattle.key.specs.Bucket.{bucket_of}
use Rattle.index.specs.declared.Index.{Index}
use Rattle.index.specs.Chain.{remove_index}
use Rattle.index.specs.Free.{vacate}
use Rattle.eviction.specs.declared.EvictionHeap.{EvictionHeap}
use Rattle.eviction.specs.Heap.{remove_heap}
use Rattle.state.specs.declared.Slot.{Slot}
use Rattle.state.specs.declared.State.{State}
use Rattle.state.specs.Slots.{slot_at, vacant_slot, is_loading, is_clean, occupied}
use Rattle.laws_table.specs.Heap.{Heaped, Holds}
use Rattle.laws_table.specs.Table.{bucket_for, bucket_in, last_in, Parts, Inv, Step}
use Rattle.laws_table.proofs.Sifts.{Sifted}
use Rattle.laws_table.proofs.HeapRemove.{remove_heap_lem}
use Rattle.laws_table.proofs.ChainRemove.{Removed, remove_index_lem}
use Rattle.laws_table.proofs.Stacks.{pushed, chains_stack, release_index_lem, stack_push, stack_same}
use Rattle.laws_table.proofs.SlotKinds.{vacant_free, bucket_occupied, bucket_vacant, last_clean, last_none, occupied_loading}
use Rattle.laws_table.proofs.TableParts.{count_anew, inv_set, slots_sum}

-- a step whose numbers are those of the table after
pub stepped : {t u : State} {x : ℕ} {s : Slot} → Inv u → x < t.capacity → u.slots ≡ set t.slots x s → u.capacity ≡ t.capacity → Step t u x s u.next_access_sequence u.next_load_generation u.clean u.loading
stepped v hx e q = record { inv = v; low = hx; slots = e; capacity = q; uses = refl; generations = refl; clean = refl; loading = refl }

module _ (t : State) (v : Inv t) (x : ℕ) (hx : x < t.capacity) where
  -- an occupied slot has a bucket
  pub has_bucket : occupied (slot_at t x) ≡ true → bucket_in t.index.buckets t.slots x ≡ none → ⊥
  has_bucket e q = none_some (sym q ∙ bucket_occupied t.index.buckets (slot_at t x) e)

  -- where the key stays, chains and stack stay
  pub same_buckets : (s : Slot) → occupied (slot_at t x) ≡ true → occupied s ≡ true → (slot_at t x).key ≡ s.key
      → put x (bucket_for t.index.buckets s) (bucket_in t.index.buckets t.slots) ≡ bucket_in t.index.buckets t.slots
  same_buckets s ho hs e =
      put_same x (bucket_for t.index.buckets s) (bucket_in t.index.buckets t.slots)
      (bucket_occupied t.index.buckets (slot_at t x) ho ∙ ap {B = Option ℕ} (λ (k : CacheKey). some (bucket_of k t.index.buckets)) e ∙ sym (bucket_occupied t.index.buckets s hs))

  -- ── the counts ──
  pub clean_pos : is_clean (slot_at t x) ≡ true → 0 < t.clean
  clean_pos e = let a = count_anew v x vacant_slot hx is_clean in let q : bit (is_clean (slot_at t x)) ≡ 1 = rw e in omega (arith, v.clean)

  pub loading_pos : is_loading (slot_at t x) ≡ true → 0 < t.loading
  loading_pos e = let a = count_anew v x vacant_slot hx is_loading in let q : bit (is_loading (slot_at t x)) ≡ 1 = rw e in omega (arith, v.loading)

  stack_room : occupied (slot_at t x) ≡ true → t.index.free_len < t.capacity
  stack_room ho =
      elim (is (is_clean (slot_at t x))) [
        | yes! e ↦ omega (arith, slots_sum v, clean_pos e)
        | no! e ↦ omega (arith, slots_sum v, loading_pos (occupied_loading (slot_at t x) ho e))
      ]

  -- ── out of the heap, and out of the chain ──
  pub out_of_heap : is_clean (slot_at t x) ≡ true → Sifted t.capacity (put x none (last_in t.slots)) (t.eviction.len - 1) (remove_heap t.capacity t.eviction x)
  out_of_heap e = remove_heap_lem t.capacity t.eviction (last_in t.slots) v.heap x (slot_at t x).last_access hx (last_clean (slot_at t x) e) v.heaped

  module _ (key : CacheKey) (ho : occupied (slot_at t x) ≡ true) (ek : (slot_at t x).key ≡ key) where
    pub out_of_chain : Removed t.capacity t.index (bucket_in t.index.buckets t.slots) v.chains x (bucket_of key t.index.buckets) (remove_index t.capacity t.index key x)
    out_of_chain =
        remove_index_lem t.capacity t.index (bucket_in t.index.buckets t.slots) v.chains key x hx
        (bucket_occupied t.index.buckets (slot_at t x) ho ∙ ap {B = Option ℕ} (λ (k : CacheKey). some (bucket_of k t.index.buckets)) ek) v.stack.fits

    -- the index with the slot out of its chain and on the stack
    pub vacated : Index
    vacated = pushed out_of_chain.index x

    pub vacate_gives : vacate t.capacity t.index key x ≡ ok vacated
    unfolding vacate vacated
    vacate_gives =
        let r = out_of_chain in
        rw r.gives (release_index_lem t.capacity r.index (put x none (bucket_in t.index.buckets t.slots)) r.chains x hx (put_here x none (bucket_in t.index.buckets t.slots)) (omega (arith, r.free_len_lem, stack_room ho)))

    -- the slot vacant, with a heap that has it not
    pub emptied : (h : EvictionHeap) (nc nl : ℕ) → Holds t.capacity h (put x none (last_in t.slots)) → Heaped h
        → nc + bit (is_clean (slot_at t x)) ≡ t.clean → nl + bit (is_loading (slot_at t x)) ≡ t.loading → Parts (set t.slots x vacant_slot) t.capacity vacated h nc nl
    unfolding vacated
    emptied h nc nl hs he ec el =
        let r = out_of_chain in
        let b : bucket_for t.index.buckets vacant_slot ≡ none = bucket_vacant t.index.buckets vacant_slot vacant_free in
        inv_set v x vacant_slot hx (pushed r.index x) h nc nl r.buckets
        (rw b (chains_stack (set r.index.free r.index.free_len x) (r.index.free_len + 1) r.chains))
        (rw b (stack_push x v.small (omega (arith, r.free_len_lem, stack_room ho)) hx (has_bucket ho) (stack_same r.free r.free_len_lem v.stack)))
        (rw (last_none vacant_slot refl) hs) he (omega arith) (omega arith)
