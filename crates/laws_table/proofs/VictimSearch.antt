-- SPDX-License-Identifier: Apache-2.0
-- The search for a victim finds the first unpinned slot among the places that it looks at, or none where all are pinned. Assumes nothing.
use Prim.Native.Nat.{ℕ, zero, suc, ◌+◌, ◌<◌, ◌≤◌, min}
use native.Mathlib.Omega.{arith}
use mathlib.Core.Path.{◌≡◌, refl}
use mathlib.Core.Bool.{true, false}
use mathlib.Core.List.{List}
use mathlib.Core.Option.{Option, none, some}
use lib.Dec.{leb, eqb}
use lib.ListN.{length}
use borrow.Author.Tests.{eqb-true, eqb-false, leb-true, leb-false, lt-leb, eq-eqb}
use Rattle.basics.specs.Try.{Try, ok}
use Rattle.basics.proofs.Tests.{yes!, no!, is}
use Rattle.eviction.specs.declared.EvictionHeap.{EvictionHeap}
use Rattle.eviction.specs.Entries.{at}
use Rattle.eviction.specs.Victim.{unpinned, victim_from, victim_of}
use Rattle.state.specs.Victim.{PLACES, victim}
use Rattle.laws_table.specs.Heap.{Holds}
use Rattle.laws_table.proofs.HeapSizes.{heap_sized}

-- of the n places from i on: all pinned, or j is the first that is not
pub data Victim (h : EvictionHeap) (pins : List ℕ) (n i : ℕ) (r : Try (Option ℕ)) : Type 0 where
  nobody! : ((j : ℕ) → i ≤ j → j < i + n → j < h.len → unpinned pins (at h j).slot ≡ false) → r ≡ ok none → Victim h pins n i r
  somebody! : (j : ℕ) → i ≤ j → j < i + n → j < h.len → unpinned pins (at h j).slot ≡ true → ((k : ℕ) → i ≤ k → k < j → unpinned pins (at h k).slot ≡ false) → r ≡ ok (some (at h j).slot) → Victim h pins n i r

module _ (c : ℕ) (h : EvictionHeap) (f : ℕ → Option ℕ) (r : Holds c h f) (pins : List ℕ) where
  at_or : (i j : ℕ) → unpinned pins (at h i).slot ≡ false → ((j ≡ i → ⊥) → unpinned pins (at h j).slot ≡ false) → unpinned pins (at h j).slot ≡ false
  at_or i j q o = elim (is (eqb j i)) [ yes! e ↦ rw (eqb-true j i e) q | no! e ↦ o (eqb-false j i e) ]

  -- one place, over what the rest gives
  victim_step : (n i : ℕ) → Victim h pins n (i + 1) (victim_from n c h pins (i + 1)) → Victim h pins (suc n) i (victim_from (suc n) c h pins i)
  unfolding victim_from
  victim_step n i rest =
      elim (is (leb h.len i)) [
        | yes! e ↦ rw e (nobody! (λ j a b d. absurd (omega (arith, leb-true h.len i e))) refl)
        | no! e ↦
            let hi : i < h.len = leb-false h.len i e in
            rw (e, lt-leb c (at h i).slot (r.low i hi)) (elim (is (unpinned pins (at h i).slot)) [
              | yes! q ↦ rw q (somebody! i (omega arith) (omega arith) hi q (λ k a b. absurd (omega arith)) refl)
              | no! q ↦ rw q (elim rest [
                | nobody! z w ↦ nobody! (λ j a b d. at_or i j q (λ y. z j (omega (arith, y)) (omega arith) d)) w
                | somebody! j a b d p z w ↦ somebody! j (omega arith) (omega arith) d p (λ k x y. at_or i k q (λ m. z k (omega (arith, m)) y)) w
              ])
            ])
      ]

  victim_from_lem : (n i : ℕ) → Victim h pins n i (victim_from n c h pins i)
  unfolding victim_from
  victim_from_lem zero i = nobody! (λ j a b d. absurd (omega arith)) refl
  victim_from_lem (suc n) i = victim_step n i (victim_from_lem n (i + 1))

  -- "the first unpinned slot among the first min(clean, 64) heap places"
  pub victim_found : (clean : ℕ) → length pins ≡ c → Victim h pins (min clean PLACES) 0 (victim c h clean pins)
  unfolding victim victim_of
  victim_found clean e = rw (heap_sized c h f r, eq-eqb (length pins) c e) (victim_from_lem (min clean PLACES) 0)
