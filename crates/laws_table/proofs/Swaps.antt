-- SPDX-License-Identifier: Apache-2.0
-- Two entries that change places: the heap holds what it held. Assumes nothing.
use Prim.Native.Nat.{ℕ, ◌<◌}
use native.Mathlib.Omega.{arith}
use mathlib.Core.Path.{◌≡◌, sym, ap, ◌∙◌}
use mathlib.Core.Option.{Option, none, some}
use lib.Dec.{eqb}
use lib.ListN.{length, set, length-set}
use lib.Seq.{get_or-set_same, get_or-set_other}
use borrow.Author.Tests.{eqb-true, eqb-false, lt-ltb}
use Rattle.basics.specs.Try.{ok}
use Rattle.basics.proofs.Tests.{yes!, no!, is, none_some}
use Rattle.eviction.specs.declared.Entry.{Entry}
use Rattle.eviction.specs.declared.EvictionHeap.{EvictionHeap}
use Rattle.eviction.specs.Entries.{heap_of, entry_of, at, pos_of}
use Rattle.eviction.specs.Sift.{swapped}
use Rattle.laws_table.specs.Heap.{rank, rank_at, Holds}

-- the heap with the entries at i and j exchanged
abbrev pub exchanged : EvictionHeap → ℕ → ℕ → EvictionHeap
exchanged h i j = heap_of (set (set h.entries i (at h j)) j (at h i)) h.len (set (set h.positions (at h j).slot i) (at h i).slot j)

module _ (c : ℕ) (h : EvictionHeap) (f : ℕ → Option ℕ) (r : Holds c h f) (i j : ℕ) (hi : i < h.len) (hj : j < h.len) (ne : i ≡ j → ⊥) where
  pub swap_ok : swapped c h i j ≡ ok (exchanged h i j)
  unfolding swapped
  swap_ok = rw (lt-ltb (at h i).slot c (r.low i hi), lt-ltb (at h j).slot c (r.low j hj))

  at_i : at (exchanged h i j) i ≡ at h j
  at_i = rw (get_or-set_other (set h.entries i (at h j)) j i (at h i) (entry_of 0 0) ne, get_or-set_same h.entries i (at h j) (entry_of 0 0) (omega (arith, r.size_entries, r.fits, r.small)))

  at_j : at (exchanged h i j) j ≡ at h i
  at_j = rw (get_or-set_same (set h.entries i (at h j)) j (at h i) (entry_of 0 0) (rw length-set (omega (arith, r.size_entries, r.fits, r.small))))

  at_other : (k : ℕ) → (k ≡ i → ⊥) → (k ≡ j → ⊥) → at (exchanged h i j) k ≡ at h k
  at_other k a b = rw (get_or-set_other (set h.entries i (at h j)) j k (at h i) (entry_of 0 0) b, get_or-set_other h.entries i k (at h j) (entry_of 0 0) a)

  -- the ranks change places too
  pub rank_i : rank_at (exchanged h i j) i ≡ rank_at h j
  unfolding rank_at
  rank_i = ap rank at_i

  pub rank_j : rank_at (exchanged h i j) j ≡ rank_at h i
  unfolding rank_at
  rank_j = ap rank at_j

  pub rank_other : (k : ℕ) → (k ≡ i → ⊥) → (k ≡ j → ⊥) → rank_at (exchanged h i j) k ≡ rank_at h k
  unfolding rank_at
  rank_other k a b = ap rank (at_other k a b)

  -- slots at two places differ
  apart : (k m : ℕ) → k < h.len → m < h.len → (k ≡ m → ⊥) → (at h k).slot ≡ (at h m).slot → ⊥
  apart k m hk hm n e = n (sym (r.back k hk) ∙ ap (pos_of h) e ∙ r.back m hm)

  in_range_lem : (k : ℕ) → k < h.len → (at h k).slot < length h.positions
  in_range_lem k hk = omega (arith, r.low k hk, r.size_positions, r.small)

  pos_i : pos_of (exchanged h i j) (at h i).slot ≡ j
  pos_i = get_or-set_same (set h.positions (at h j).slot i) (at h i).slot j 0 (rw length-set (in_range_lem i hi))

  pos_j : pos_of (exchanged h i j) (at h j).slot ≡ i
  pos_j = rw (get_or-set_other (set h.positions (at h j).slot i) (at h i).slot (at h j).slot j 0 (λ e. apart j i hj hi (λ q. ne (sym q)) e), get_or-set_same h.positions (at h j).slot i 0 (in_range_lem j hj))

  pos_other : (s : ℕ) → (s ≡ (at h i).slot → ⊥) → (s ≡ (at h j).slot → ⊥) → pos_of (exchanged h i j) s ≡ pos_of h s
  pos_other s a b = rw (get_or-set_other (set h.positions (at h j).slot i) (at h i).slot s j 0 a, get_or-set_other h.positions (at h j).slot s i 0 b)

  -- what holds of the entries that come to i and to j, and of each other one, holds of each place
  by_place : (P : ℕ → Entry → Type 0) → P i (at h j) → P j (at h i) → ((k : ℕ) → k < h.len → (k ≡ i → ⊥) → (k ≡ j → ⊥) → P k (at h k)) → (k : ℕ) → k < h.len → P k (at (exchanged h i j) k)
  by_place P a b o k hk =
      elim (is (eqb k i)) [
        | yes! e ↦ rw (eqb-true k i e, at_i) a
        | no! e ↦ elim (is (eqb k j)) [
          | yes! q ↦ rw (eqb-true k j q, at_j) b
          | no! q ↦ rw (at_other k (eqb-false k i e) (eqb-false k j q)) (o k hk (eqb-false k i e) (eqb-false k j q))
        ]
      ]

  spotted : (s p : ℕ) → pos_of (exchanged h i j) s ≡ p → p < h.len → (at (exchanged h i j) p).slot ≡ s → (pos_of (exchanged h i j) s < h.len) × ((at (exchanged h i j) (pos_of (exchanged h i j) s)).slot ≡ s)
  spotted s p e hp q = rw e (hp, q)

  spot_swap : (s u : ℕ) → s < c → f s ≡ some u → (pos_of (exchanged h i j) s < h.len) × ((at (exchanged h i j) (pos_of (exchanged h i j) s)).slot ≡ s)
  spot_swap s u hs e =
      elim (is (eqb s (at h i).slot)) [
        | yes! q ↦ rw (eqb-true s (at h i).slot q) (spotted (at h i).slot j pos_i hj (ap (λ (x : Entry). x.slot) at_j))
        | no! q ↦ elim (is (eqb s (at h j).slot)) [
          | yes! w ↦ rw (eqb-true s (at h j).slot w) (spotted (at h j).slot i pos_j hi (ap (λ (x : Entry). x.slot) at_i))
          | no! w ↦ spotted s (pos_of h s) (pos_other s (eqb-false s (at h i).slot q) (eqb-false s (at h j).slot w)) (r.spot s u hs e).0
              (ap (λ (x : Entry). x.slot) (at_other (pos_of h s)
              (λ (z : pos_of h s ≡ i). eqb-false s (at h i).slot q (sym (r.spot s u hs e).1 ∙ ap (λ (m : ℕ). (at h m).slot) z))
              (λ (z : pos_of h s ≡ j). eqb-false s (at h j).slot w (sym (r.spot s u hs e).1 ∙ ap (λ (m : ℕ). (at h m).slot) z)))
              ∙ (r.spot s u hs e).1)
        ]
      ]

  not_here : (s k : ℕ) → k < h.len → f s ≡ none → s ≡ (at h k).slot → ⊥
  not_here s k hk e q = none_some (sym e ∙ ap f q ∙ r.last k hk)

  pub holds_swap : Holds c (exchanged h i j) f
  holds_swap =
      record {
        size_entries = rw (length-set, length-set) r.size_entries;
        size_positions = rw (length-set, length-set) r.size_positions;
        small = r.small;
        fits = r.fits;
        low = by_place (λ k e. e.slot < c) (r.low j hj) (r.low i hi) (λ k hk a b. r.low k hk);
        back = by_place (λ k e. pos_of (exchanged h i j) e.slot ≡ k) pos_j pos_i (λ k hk a b. rw (pos_other (at h k).slot (apart k i hk hi a) (apart k j hk hj b)) (r.back k hk));
        last = by_place (λ k e. f e.slot ≡ some e.last_access) (r.last j hj) (r.last i hi) (λ k hk a b. r.last k hk);
        spot = spot_swap;
        gone = λ s hs e. rw (pos_other s (not_here s i hi e) (not_here s j hj e)) (r.gone s hs e);
      }
