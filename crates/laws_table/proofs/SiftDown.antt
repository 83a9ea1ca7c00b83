-- SPDX-License-Identifier: Apache-2.0
-- `sift_down` puts a heap in order that is out of order only between one place and those below it. Assumes nothing.
use Prim.Native.Nat.{ℕ, zero, suc, ◌+◌, ◌*◌, ◌<◌, ◌≤◌}
use native.Mathlib.Omega.{arith}
use mathlib.Core.Path.{◌≡◌, refl}
use mathlib.Core.Option.{Option}
use lib.Dec.{ltb, leb, eqb}
use borrow.Author.Tests.{eqb-true, eqb-false, ltb-true, ltb-false, leb-true, leb-false}
use Rattle.basics.proofs.Tests.{yes!, no!, is}
use Rattle.eviction.specs.declared.EvictionHeap.{EvictionHeap}
use Rattle.eviction.specs.Sift.{child_of, down_to, sift_from}
use Rattle.laws_table.specs.Heap.{rank_at, parent, Holds}
use Rattle.laws_table.proofs.Ranks.{older_at}
use Rattle.laws_table.proofs.Swaps.{exchanged, swap_ok, rank_i, rank_j, rank_other, holds_swap}
use Rattle.laws_table.proofs.Sifts.{Sifted, sift_stays, sift_goes}

-- in order but for i and the places below it
pub record Sinking (h : EvictionHeap) (i : ℕ) : Type 0 where
  pub sides : (k : ℕ) → 0 < k → k < h.len → (parent k ≡ i → ⊥) → rank_at h (parent k) ≤ rank_at h k
  pub over : (k : ℕ) → 0 < k → k < h.len → parent k ≡ i → 0 < i → rank_at h (parent i) ≤ rank_at h k

-- m is the older place below i
record Child (h : EvictionHeap) (i m : ℕ) : Type 0 where
  pub low : m < h.len
  pub above : parent m ≡ i
  pub pos : 0 < m
  pub least : (k : ℕ) → 0 < k → k < h.len → parent k ≡ i → rank_at h m ≤ rank_at h k

child_is : (c : ℕ) (h : EvictionHeap) (f : ℕ → Option ℕ) → Holds c h f → (i : ℕ) → i * 2 + 1 < h.len → Child h i (child_of h i)
unfolding child_of
child_is c h f r i hl =
    elim (is (leb h.len (i * 2 + 2))) [
      | yes! e ↦ rw e (record { low = hl; above = omega arith; pos = omega arith; least = λ k hk kl u. let q : k ≡ i * 2 + 1 = omega (arith, leb-true h.len (i * 2 + 2) e) in rw q (omega arith) })
      | no! e ↦
          let hr : i * 2 + 2 < h.len = leb-false h.len (i * 2 + 2) e in
          rw (e, older_at c h f r (i * 2 + 2) (i * 2 + 1) hr hl)
          (elim (is (ltb (rank_at h (i * 2 + 2)) (rank_at h (i * 2 + 1)))) [
            | yes! q ↦ rw q (record {
              low = hr;
              above = omega arith;
              pos = omega arith;
              least = λ k hk kl u. elim (is (eqb k (i * 2 + 1))) [
                | yes! z ↦ rw (eqb-true k (i * 2 + 1) z) (omega (arith, ltb-true (rank_at h (i * 2 + 2)) (rank_at h (i * 2 + 1)) q))
                | no! z ↦ let y : k ≡ i * 2 + 2 = omega (arith, eqb-false k (i * 2 + 1) z) in rw y (omega arith)
              ];
            })
            | no! q ↦ rw q (record {
              low = hl;
              above = omega arith;
              pos = omega arith;
              least = λ k hk kl u. elim (is (eqb k (i * 2 + 1))) [
                | yes! z ↦ rw (eqb-true k (i * 2 + 1) z) (omega arith)
                | no! z ↦ let y : k ≡ i * 2 + 2 = omega (arith, eqb-false k (i * 2 + 1) z) in rw y (ltb-false (rank_at h (i * 2 + 2)) (rank_at h (i * 2 + 1)) q)
              ];
            })
          ])
    ]

-- where the entry at i goes on its way down
data Sink (h : EvictionHeap) (i : ℕ) : Type 0 where
  rests : down_to h i ≡ i → ((k : ℕ) → 0 < k → k < h.len → parent k ≡ i → rank_at h i ≤ rank_at h k) → Sink h i
  sinks : (m : ℕ) → down_to h i ≡ m → Child h i m → rank_at h m < rank_at h i → Sink h i

sink : (c : ℕ) (h : EvictionHeap) (f : ℕ → Option ℕ) → Holds c h f → (i : ℕ) → i < h.len → Sink h i
unfolding down_to
sink c h f r i hi =
    elim (is (leb h.len (i * 2 + 1))) [
      | yes! e ↦ rests (rw e) (λ k hk hl u. absurd (omega (arith, leb-true h.len (i * 2 + 1) e)))
      | no! e ↦
          let d : Child h i (child_of h i) = child_is c h f r i (leb-false h.len (i * 2 + 1) e) in
          let test = older_at c h f r (child_of h i) i d.low hi in
          elim (is (ltb (rank_at h (child_of h i)) (rank_at h i))) [
            | yes! q ↦ sinks (child_of h i) (rw (e, test, q)) d (ltb-true (rank_at h (child_of h i)) (rank_at h i) q)
            | no! q ↦ rests (rw (e, test, q)) (λ k hk hl u. omega (arith, ltb-false (rank_at h (child_of h i)) (rank_at h i) q, d.least k hk hl u))
          ]
    ]

module _ (c : ℕ) (h : EvictionHeap) (f : ℕ → Option ℕ) (r : Holds c h f) (i m : ℕ) (hi : i < h.len) (d : Child h i m) (w : Sinking h i) (less : rank_at h m < rank_at h i) where
  abbrev after : EvictionHeap
  after = exchanged h i m

  at_i : rank_at after i ≡ rank_at h m
  at_i = rank_i c h f r i m hi d.low (omega (arith, d.above, d.pos))

  at_m : rank_at after m ≡ rank_at h i
  at_m = rank_j c h f r i m hi d.low (omega (arith, d.above, d.pos))

  at_other : (k : ℕ) → (k ≡ i → ⊥) → (k ≡ m → ⊥) → rank_at after k ≡ rank_at h k
  at_other = rank_other c h f r i m hi d.low (omega (arith, d.above, d.pos))

  sides_down : (k : ℕ) → 0 < k → k < h.len → (parent k ≡ m → ⊥) → rank_at after (parent k) ≤ rank_at after k
  sides_down k hk hl n =
      elim (is (eqb k i)) [
        | yes! e ↦ let q : k ≡ i = eqb-true k i e in rw (q, at_i, at_other (parent i) (omega arith) (omega (arith, d.above, d.pos))) (w.over m d.pos d.low d.above (omega arith))
        | no! e ↦ elim (is (eqb k m)) [
          | yes! q ↦ rw (eqb-true k m q, d.above, at_i, at_m) (omega arith)
          | no! q ↦ rw (at_other k (eqb-false k i e) (eqb-false k m q)) (elim (is (eqb (parent k) i)) [
            | yes! z ↦ rw (eqb-true (parent k) i z, at_i) (d.least k hk hl (eqb-true (parent k) i z))
            | no! z ↦ rw (at_other (parent k) (eqb-false (parent k) i z) n) (w.sides k hk hl (eqb-false (parent k) i z))
          ])
        ]
      ]

  over_down : (k : ℕ) → 0 < k → k < h.len → parent k ≡ m → 0 < m → rank_at after (parent m) ≤ rank_at after k
  over_down k hk hl e p =
      rw (d.above, at_i, at_other k (omega (arith, d.above, d.pos)) (omega arith)) (rw e at (w.sides k hk hl (omega (arith, d.above, d.pos))))

  sinking_down : Sinking after m
  sinking_down = record { sides = sides_down; over = over_down }

-- one step, over what the rest gives
down_step : (n c : ℕ) (h : EvictionHeap) (f : ℕ → Option ℕ) (i : ℕ) → Holds c h f → i < h.len → Sinking h i
    → ((m : ℕ) → Child h i m → Holds c (exchanged h i m) f → Sinking (exchanged h i m) m → Sifted c f h.len (sift_from down_to n c (exchanged h i m) m))
    → Sifted c f h.len (sift_from down_to (suc n) c h i)
down_step n c h f i r hi w rest =
    elim (sink c h f r i hi) [
      | rests e g ↦ record {
        heap = h;
        gives = sift_stays down_to n c h i e;
        holds = r;
        heaped = λ k hk hl. elim (is (eqb (parent k) i)) [
          | yes! z ↦ rw (eqb-true (parent k) i z) (g k hk hl (eqb-true (parent k) i z))
          | no! z ↦ w.sides k hk hl (eqb-false (parent k) i z)
        ];
        len = refl;
      }
      | sinks m e d less ↦
          rw (sift_goes down_to n c h i m (exchanged h i m) e (omega (arith, d.above, d.pos)) (swap_ok c h f r i m hi d.low (omega (arith, d.above, d.pos))))
          (rest m d (holds_swap c h f r i m hi d.low (omega (arith, d.above, d.pos))) (sinking_down c h f r i m hi d w less))
    ]

pub sift_down_lem : (n c : ℕ) (h : EvictionHeap) (f : ℕ → Option ℕ) (i : ℕ) → Holds c h f → i < h.len → h.len ≤ n + i → Sinking h i → Sifted c f h.len (sift_from down_to n c h i)
sift_down_lem zero c h f i r hi hn w = absurd (omega arith)
sift_down_lem (suc n) c h f i r hi hn w = down_step n c h f i r hi w (λ m d s v. sift_down_lem n c (exchanged h i m) f m s d.low (omega (arith, d.above, d.pos)) v)
