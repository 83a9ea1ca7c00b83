-- SPDX-License-Identifier: Apache-2.0
-- What a walk of `sift_from` does at its first step, and what a walk is to leave. Assumes nothing.
use Prim.Native.Nat.{ℕ, suc}
use mathlib.Core.Path.{◌≡◌}
use mathlib.Core.Option.{Option}
use borrow.Author.Tests.{eq-eqb, ne_eqb}
use Rattle.basics.specs.Try.{Try, ok}
use Rattle.eviction.specs.declared.EvictionHeap.{EvictionHeap}
use Rattle.eviction.specs.Sift.{swapped, sift_from}
use Rattle.laws_table.specs.Heap.{Heaped, Holds}

-- the answer is a heap of n entries, in order, that holds what f says
pub record Sifted (c : ℕ) (f : ℕ → Option ℕ) (n : ℕ) (x : Try EvictionHeap) : Type 0 where
  pub heap : EvictionHeap
  pub gives : x ≡ ok heap
  pub holds : Holds c heap f
  pub heaped : Heaped heap
  pub len : heap.len ≡ n

module _ (next : EvictionHeap → ℕ → ℕ) (n c : ℕ) (h : EvictionHeap) (p : ℕ) where
  pub sift_stays : next h p ≡ p → sift_from next (suc n) c h p ≡ ok h
  unfolding sift_from
  sift_stays e = rw (eq-eqb (next h p) p e)

  pub sift_goes : (q : ℕ) (k : EvictionHeap) → next h p ≡ q → (q ≡ p → ⊥) → swapped c h p q ≡ ok k → sift_from next (suc n) c h p ≡ sift_from next n c k q
  unfolding sift_from
  sift_goes q k e ne s = rw (e, ne_eqb q p ne, s)
