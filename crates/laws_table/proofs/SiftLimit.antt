-- SPDX-License-Identifier: Apache-2.0
-- The limit of 256 steps in the rule of the sifts is never met, on any heap: more steps give the same. Assumes nothing.
use Prim.Native.Nat.{ℕ, zero, suc, ◌+◌, ◌*◌, ◌<◌, ◌≤◌}
use native.Mathlib.Omega.{arith}
use mathlib.Core.Path.{◌≡◌, sym, ap}
use mathlib.Core.Bool.{◌&&◌}
use lib.Dec.{ltb, leb, eqb}
use borrow.Author.Tests.{eqb-false, leb-false}
use Rattle.basics.specs.Try.{ok}
use Rattle.basics.specs.Refusals.{STOP}
use Rattle.basics.proofs.Tests.{yes!, no!, is, met, bind_same, ok_same}
use Rattle.eviction.specs.declared.EvictionHeap.{EvictionHeap}
use Rattle.eviction.specs.Entries.{at, older}
use Rattle.eviction.specs.Sift.{swapped, up_to, child_of, down_to, sift_from}
use Rattle.laws_table.specs.Heap.{parent}

-- two numbers of steps, one step on: they give the same if they do from there
step_same : (next : EvictionHeap → ℕ → ℕ) (n m c : ℕ) (h : EvictionHeap) (p : ℕ)
    → ((next h p ≡ p → ⊥) → (k : EvictionHeap) → swapped c h p (next h p) ≡ ok k → sift_from next n c k (next h p) ≡ sift_from next m c k (next h p))
    → sift_from next (suc n) c h p ≡ sift_from next (suc m) c h p
unfolding sift_from
step_same next n m c h p rest =
    elim (is (eqb (next h p) p)) [
      | yes! e ↦ rw e
      | no! e ↦ rw e (bind_same (swapped c h p (next h p)) (λ k. sift_from next n c k (next h p)) (λ k. sift_from next m c k (next h p)) (rest (eqb-false (next h p) p e)))
    ]

-- upwards the place gets smaller
up_less : (h : EvictionHeap) (p : ℕ) → (up_to h p ≡ p → ⊥) → up_to h p < p
unfolding up_to
up_less h p ne =
    elim (is (eqb p 0)) [
      | yes! e ↦ absurd (ne (rw e))
      | no! e ↦ elim (is (older (at h p) (at h (parent p)))) [
        | yes! q ↦ rw (e, q) (omega (arith, eqb-false p 0 e))
        | no! q ↦ absurd (ne (rw (e, q)))
      ]
    ]

up_same : (n m c : ℕ) (h : EvictionHeap) (p : ℕ) → p < n → p < m → sift_from up_to n c h p ≡ sift_from up_to m c h p
up_same zero m c h p hn hm = absurd (omega arith)
up_same (suc n) zero c h p hn hm = absurd (omega arith)
up_same (suc n) (suc m) c h p hn hm =
    step_same up_to n m c h p (λ ne k s. let less = up_less h p ne in up_same n m c k (up_to h p) (omega arith) (omega arith))

-- downwards it gets greater, and stays in the heap
child_more : (h : EvictionHeap) (p : ℕ) → p * 2 + 1 < h.len → (p < child_of h p) × (child_of h p < h.len)
unfolding child_of
child_more h p hl =
    elim (is (leb h.len (p * 2 + 2))) [
      | yes! e ↦ rw e (omega arith)
      | no! e ↦ elim (is (older (at h (p * 2 + 2)) (at h (p * 2 + 1)))) [ yes! q ↦ rw (e, q) (omega (arith, leb-false h.len (p * 2 + 2) e)) | no! q ↦ rw (e, q) (omega arith) ]
    ]

down_more : (h : EvictionHeap) (p : ℕ) → (down_to h p ≡ p → ⊥) → (p < down_to h p) × (down_to h p < h.len)
unfolding down_to
down_more h p ne =
    elim (is (leb h.len (p * 2 + 1))) [
      | yes! e ↦ absurd (ne (rw e))
      | no! e ↦ elim (is (older (at h (child_of h p)) (at h p))) [
        | yes! q ↦ rw (e, q) (child_more h p (leb-false h.len (p * 2 + 1) e))
        | no! q ↦ absurd (ne (rw (e, q)))
      ]
    ]

swap_len : (c : ℕ) (h : EvictionHeap) (i j : ℕ) (k : EvictionHeap) → swapped c h i j ≡ ok k → k.len ≡ h.len
unfolding swapped
swap_len c h i j k e = ap (λ (x : EvictionHeap). x.len) (sym (ok_same (met (ltb (at h j).slot c && ltb (at h i).slot c) STOP _ k e).1))

down_same : (n m c : ℕ) (h : EvictionHeap) (p : ℕ) → 0 < n → 0 < m → h.len ≤ n + p → h.len ≤ m + p → sift_from down_to n c h p ≡ sift_from down_to m c h p
down_same zero m c h p pn pm hn hm = absurd (omega arith)
down_same (suc n) zero c h p pn pm hn hm = absurd (omega arith)
down_same (suc n) (suc m) c h p pn pm hn hm =
    step_same down_to n m c h p (λ ne k s. let more = down_more h p ne in let l = swap_len c h p (down_to h p) k s in down_same n m c k (down_to h p) (omega arith) (omega arith) (omega arith) (omega arith))

-- "no way has 256 steps": upwards from any place of the array, downwards in any heap that the array holds
pub up_limit : (k c : ℕ) (h : EvictionHeap) (p : ℕ) → p < 256 → sift_from up_to (256 + k) c h p ≡ sift_from up_to 256 c h p
up_limit k c h p hp = up_same (256 + k) 256 c h p (omega arith) hp

pub down_limit : (k c : ℕ) (h : EvictionHeap) (p : ℕ) → h.len ≤ 256 → sift_from down_to (256 + k) c h p ≡ sift_from down_to 256 c h p
down_limit k c h p hl = down_same (256 + k) 256 c h p (omega arith) (omega arith) (omega arith) (omega arith)
