-- SPDX-License-Identifier: Apache-2.0
-- What taking a clean key out of a table keeps: its capacity, its bucket count, and lengths within the capacity. Assumes nothing.
use Prim.Native.Nat.{ℕ, zero, suc, ◌+◌, ◌-◌, ◌≤◌}
use mathlib.Core.Path.{◌≡◌, refl, ◌∙◌}
use mathlib.Core.Bool.{true, not, ◌&&◌}
use native.Mathlib.Omega.{arith}
use lib.Dec.{leb, ltb, eqb}
use borrow.Author.Tests.{not-true, eqb-false, lt-ltb, le-leb, eq-eqb}
use Rattle.basics.specs.Try.{ok, ◌>>=◌}
use Rattle.basics.specs.Refusals.{STOP}
use Rattle.basics.specs.Numbers.{NONE}
use Rattle.basics.proofs.Tests.{yes!, no!, is, and_right, refuse_ok, met, went, ok_same}
use Rattle.key.specs.declared.CacheKey.{CacheKey}
use Rattle.key.specs.Bucket.{bucket_of, bucket_count}
use Rattle.index.specs.declared.Index.{Index}
use Rattle.index.specs.Chain.{CHAIN, sized, head_of, next_of, length_of, unlinked, remove_from, remove_index}
use Rattle.index.specs.Free.{release_index, vacate}
use Rattle.index.proofs.Cases.{has_sizes}
use Rattle.eviction.specs.declared.EvictionHeap.{EvictionHeap}
use Rattle.eviction.specs.Entries.{at}
use Rattle.eviction.specs.Sift.{swapped, up_to, down_to, sift_from}
use Rattle.eviction.specs.Heap.{popped, put_at, place_of, settle, remove_at, remove_heap}
use Rattle.state.specs.declared.State.{State}
use Rattle.state.specs.Fresh.{sound, sound_sizes}
use Rattle.state.specs.Remove.{detach_clean, remove_clean}
use Rattle.state.proofs.Cases.{sound_sizes_lem}
use Rattle.state_remove.proofs.Cases.{detached}

-- ---- the heap's length

swap_len : (c : ℕ) (h : EvictionHeap) (i j : ℕ) (k : EvictionHeap) → swapped c h i j ≡ ok k → k.len ≡ h.len
unfolding swapped
swap_len c h i j k e = let a = met (ltb (at h j).slot c && ltb (at h i).slot c) STOP _ k e in cc

sift_len : (next : EvictionHeap → ℕ → ℕ) (n c : ℕ) (h : EvictionHeap) (p : ℕ) (k : EvictionHeap) → sift_from next n c h p ≡ ok k → k.len ≡ h.len
unfolding sift_from
sift_len next zero c h p k e = cc
sift_len next (suc n) c h p k e =
    elim (is (eqb (next h p) p)) [
      | yes! s ↦ let f = rw s at e in cc
      | no! s ↦
          let f : (swapped c h p (next h p) >>= λ g. sift_from next n c g (next h p)) ≡ ok k = rw s at e in
          let a = went (swapped c h p (next h p)) _ k f in
          sift_len next n c a.0 (next h p) k a.2 ∙ swap_len c h p (next h p) a.0 a.1
    ]

settle_len : (c : ℕ) (h : EvictionHeap) (p : ℕ) (k : EvictionHeap) → settle c h p ≡ ok k → k.len ≡ h.len
unfolding settle
settle_len c h p k e =
    elim (is (eqb (up_to h p) p)) [
      | yes! s ↦ sift_len down_to 256 c h p k (rw s at e)
      | no! s ↦ sift_len up_to 256 c h p k (rw s at e)
    ]

removed_len : (c : ℕ) (h : EvictionHeap) (slot p : ℕ) (k : EvictionHeap) → remove_at c h slot p ≡ ok k → k.len ≡ h.len - 1
unfolding remove_at popped put_at
removed_len c h slot p k e =
    elim (is (eqb p (h.len - 1))) [
      | yes! s ↦ let f = rw s at e in cc
      | no! s ↦ settle_len c _ p k (met (ltb (at h (h.len - 1)).slot c) STOP _ k (rw s at e)).1
    ]

heap_shorter : (c : ℕ) (h : EvictionHeap) (slot : ℕ) (k : EvictionHeap) → remove_heap c h slot ≡ ok k → k.len ≡ h.len - 1
unfolding remove_heap
heap_shorter c h slot k e = let a = went (place_of c h slot) _ k e in removed_len c h slot a.0 k a.2

-- ---- the index's bucket count and the stack's length

cut_keeps : (n c : ℕ) (ix : Index) (b target p s : ℕ) (k : Index) → remove_from n c ix b target p s ≡ ok k → k.buckets ≡ ix.buckets
unfolding remove_from unlinked
cut_keeps zero c ix b target p s k e = absurd (refuse_ok e)
cut_keeps (suc n) c ix b target p s k e =
    elim (is (leb c s)) [
      | yes! l ↦ absurd (refuse_ok {a = k} (rw l at e))
      | no! l ↦ elim (is (eqb s target)) [
        | yes! q ↦ let f = rw (l, q) at e in cc
        | no! q ↦ cut_keeps n c ix b target s (next_of ix s) k (rw (l, q) at e)
      ]
    ]

released : (c : ℕ) (ix : Index) (slot : ℕ) (k : Index) → release_index c ix slot ≡ ok k → (k.buckets ≡ ix.buckets) × (k.free_len ≤ c)
unfolding release_index
released c ix slot k e =
    let a = met (sized c ix) STOP _ k e in
    let x = ltb slot c && eqb (next_of ix slot) NONE in
    let z = not (eqb ix.free_len c) in
    let b = met (x && z) STOP _ k a.1 in
    let other : ix.free_len ≡ c → ⊥ = eqb-false _ _ (not-true (eqb ix.free_len c) (and_right x z b.0)) in
    let f = b.1 in
    let n : k.free_len ≡ ix.free_len + 1 = cc in
    (cc, omega (arith, n, other, (has_sizes a.0).stack))

vacated : (c : ℕ) (ix : Index) (key : CacheKey) (slot : ℕ) (k : Index) → vacate c ix key slot ≡ ok k → (k.buckets ≡ ix.buckets) × (k.free_len ≤ c)
unfolding vacate remove_index
vacated c ix key slot k e =
    let a = went (remove_index c ix key slot) _ k e in
    let b = met (sized c ix) STOP _ a.0 a.1 in
    let l = met (ltb 0 (length_of ix key)) STOP _ a.0 b.1 in
    let r = released c a.0 slot k a.2 in
    (r.0 ∙ cut_keeps CHAIN c ix (bucket_of key ix.buckets) slot NONE (head_of ix key) a.0 l.1, r.1)

-- ---- the table

-- what a table keeps that a clean key left
abbrev pub Keeps : State → State → Type 0
Keeps t u = (sound u ≡ true) × (u.capacity ≡ t.capacity)

pub detach_keeps : {u : State} (t : State) (slot : ℕ) → sound t ≡ true → detach_clean t slot ≡ ok u → Keeps t u
unfolding sound_sizes
detach_keeps {u} t slot y e =
    let s = sound_sizes_lem y in
    let d = detached t slot u e in
    let v = vacated t.capacity t.index _ slot d.ix d.links in
    let h = heap_shorter t.capacity t.eviction slot d.heap d.shorter in
    let fits : d.heap.len ≤ t.capacity = omega (arith, s.heap) in
    rw (
      d.same,
      lt-ltb 0 t.capacity s.some_slot,
      le-leb t.capacity 256 s.small,
      eq-eqb d.ix.buckets (bucket_count t.capacity) (v.0 ∙ s.right),
      le-leb d.ix.free_len t.capacity v.1,
      le-leb d.heap.len t.capacity fits,
    )
    (refl, refl)

pub remove_keeps : {u : State} (t : State) (slot : ℕ) → sound t ≡ true → remove_clean t slot ≡ ok u → Keeps t u
unfolding remove_clean
remove_keeps {u} t slot y e = let a = went (detach_clean t slot) _ u e in rw (← ok_same a.2) (detach_keeps t slot y a.1)
