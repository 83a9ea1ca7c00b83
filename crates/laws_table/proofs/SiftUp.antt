-- SPDX-License-Identifier: Apache-2.0
-- `sift_up` puts a heap in order that is out of order only between one place and the one above it. Assumes nothing.
use Prim.Native.Nat.{ℕ, zero, suc, ◌<◌, ◌≤◌}
use native.Mathlib.Omega.{arith}
use mathlib.Core.Path.{◌≡◌, refl}
use mathlib.Core.Option.{Option}
use lib.Dec.{ltb, eqb}
use borrow.Author.Tests.{eqb-true, eqb-false, ltb-true, ltb-false}
use Rattle.basics.proofs.Tests.{yes!, no!, is}
use Rattle.eviction.specs.declared.EvictionHeap.{EvictionHeap}
use Rattle.eviction.specs.Sift.{up_to, sift_from}
use Rattle.laws_table.specs.Heap.{rank_at, parent, Heaped, Holds}
use Rattle.laws_table.proofs.Ranks.{older_at}
use Rattle.laws_table.proofs.Swaps.{exchanged, swap_ok, rank_i, rank_j, rank_other, holds_swap}
use Rattle.laws_table.proofs.Sifts.{Sifted, sift_stays, sift_goes}

-- in order but for i and the place above it
pub record Rising (h : EvictionHeap) (i : ℕ) : Type 0 where
  pub sides : (k : ℕ) → 0 < k → k < h.len → (k ≡ i → ⊥) → rank_at h (parent k) ≤ rank_at h k
  pub over : (k : ℕ) → 0 < k → k < h.len → parent k ≡ i → 0 < i → rank_at h (parent i) ≤ rank_at h k

-- where the entry at i goes on its way up
pub data Climb (h : EvictionHeap) (i : ℕ) : Type 0 where
  rests : up_to h i ≡ i → (0 < i → rank_at h (parent i) ≤ rank_at h i) → Climb h i
  climbs : up_to h i ≡ parent i → 0 < i → rank_at h i < rank_at h (parent i) → Climb h i

pub climb : (c : ℕ) (h : EvictionHeap) (f : ℕ → Option ℕ) → Holds c h f → (i : ℕ) → i < h.len → Climb h i
unfolding up_to
climb c h f r i hi =
    elim (is (eqb i 0)) [
      | yes! e ↦ rests (rw e) (λ p. absurd (omega (arith, eqb-true i 0 e)))
      | no! e ↦
          let test = older_at c h f r i (parent i) hi (omega arith) in
          elim (is (ltb (rank_at h i) (rank_at h (parent i)))) [
            | yes! q ↦ climbs (rw (e, test, q)) (omega (arith, eqb-false i 0 e)) (ltb-true (rank_at h i) (rank_at h (parent i)) q)
            | no! q ↦ rests (rw (e, test, q)) (λ p. ltb-false (rank_at h i) (rank_at h (parent i)) q)
          ]
    ]

module _ (c : ℕ) (h : EvictionHeap) (f : ℕ → Option ℕ) (r : Holds c h f) (i : ℕ) (hi : i < h.len) (pos : 0 < i) (w : Rising h i) (less : rank_at h i < rank_at h (parent i)) where
  abbrev after : EvictionHeap
  after = exchanged h i (parent i)

  at_i : rank_at after i ≡ rank_at h (parent i)
  at_i = rank_i c h f r i (parent i) hi (omega arith) (omega arith)

  at_parent : rank_at after (parent i) ≡ rank_at h i
  at_parent = rank_j c h f r i (parent i) hi (omega arith) (omega arith)

  at_other : (k : ℕ) → (k ≡ i → ⊥) → (k ≡ parent i → ⊥) → rank_at after k ≡ rank_at h k
  at_other = rank_other c h f r i (parent i) hi (omega arith) (omega arith)

  sides_up : (k : ℕ) → 0 < k → k < h.len → (k ≡ parent i → ⊥) → rank_at after (parent k) ≤ rank_at after k
  sides_up k hk hl n =
      elim (is (eqb k i)) [
        | yes! e ↦ rw (eqb-true k i e) (omega (arith, at_i, at_parent))
        | no! e ↦ elim (is (eqb (parent k) i)) [
          | yes! q ↦ rw (eqb-true (parent k) i q, at_i, at_other k (eqb-false k i e) n) (w.over k hk hl (eqb-true (parent k) i q) pos)
          | no! q ↦ elim (is (eqb (parent k) (parent i))) [
            | yes! z ↦ rw (eqb-true (parent k) (parent i) z, at_parent, at_other k (eqb-false k i e) n) (omega (arith, rw (eqb-true (parent k) (parent i) z) at (w.sides k hk hl (eqb-false k i e))))
            | no! z ↦ rw (at_other (parent k) (eqb-false (parent k) i q) (eqb-false (parent k) (parent i) z), at_other k (eqb-false k i e) n) (w.sides k hk hl (eqb-false k i e))
          ]
        ]
      ]

  over_up : (k : ℕ) → 0 < k → k < h.len → parent k ≡ parent i → 0 < parent i → rank_at after (parent (parent i)) ≤ rank_at after k
  over_up k hk hl e p =
      let above : rank_at h (parent (parent i)) ≤ rank_at h (parent i) = w.sides (parent i) p (omega arith) (omega arith) in
      rw (at_other (parent (parent i)) (omega arith) (omega arith))
      (elim (is (eqb k i)) [
        | yes! q ↦ rw (eqb-true k i q, at_i) above
        | no! q ↦ rw (at_other k (eqb-false k i q) (omega arith)) (omega (arith, rw e at (w.sides k hk hl (eqb-false k i q))))
      ])

  rising_up : Rising after (parent i)
  rising_up = record { sides = sides_up; over = over_up }

-- the entry at i rests: all is in order
settled : (h : EvictionHeap) (i : ℕ) → Rising h i → (0 < i → rank_at h (parent i) ≤ rank_at h i) → Heaped h
settled h i w g k hk hl = elim (is (eqb k i)) [ yes! e ↦ rw (eqb-true k i e) (g (omega (arith, eqb-true k i e))) | no! e ↦ w.sides k hk hl (eqb-false k i e) ]

-- one step, over what the rest gives
up_step : (n c : ℕ) (h : EvictionHeap) (f : ℕ → Option ℕ) (i : ℕ) → Holds c h f → i < h.len → Rising h i
    → (Holds c (exchanged h i (parent i)) f → 0 < i → parent i < h.len → Rising (exchanged h i (parent i)) (parent i) → Sifted c f h.len (sift_from up_to n c (exchanged h i (parent i)) (parent i)))
    → Sifted c f h.len (sift_from up_to (suc n) c h i)
up_step n c h f i r hi w rest =
    elim (climb c h f r i hi) [
      | rests e g ↦ record { heap = h; gives = sift_stays up_to n c h i e; holds = r; heaped = settled h i w g; len = refl }
      | climbs e pos less ↦
          let up< : parent i < h.len = omega arith in
          rw (sift_goes up_to n c h i (parent i) (exchanged h i (parent i)) e (omega arith) (swap_ok c h f r i (parent i) hi up< (omega arith)))
          (rest (holds_swap c h f r i (parent i) hi up< (omega arith)) pos up< (rising_up c h f r i hi pos w less))
    ]

pub sift_up_lem : (n c : ℕ) (h : EvictionHeap) (f : ℕ → Option ℕ) (i : ℕ) → Holds c h f → i < h.len → i < n → Rising h i → Sifted c f h.len (sift_from up_to n c h i)
sift_up_lem zero c h f i r hi hn w = absurd (omega arith)
sift_up_lem (suc n) c h f i r hi hn w = up_step n c h f i r hi w (λ s p u v. sift_up_lem n c (exchanged h i (parent i)) f (parent i) s u (omega arith) v)
