-- SPDX-License-Identifier: Apache-2.0
-- `remove` of the heap is not refused for a held slot, keeps the invariant, and takes out that slot only. Assumes nothing.
use Prim.Native.Nat.{ℕ, ◌-◌, ◌<◌, ◌≤◌}
use native.Mathlib.Omega.{arith}
use mathlib.Core.Path.{◌≡◌, refl, sym, ap, ◌∙◌}
use mathlib.Core.Option.{Option, none, some}
use lib.Dec.{eqb}
use lib.ListN.{set, length-set}
use lib.Seq.{get_or-set_same, get_or-set_other}
use borrow.Author.Tests.{eqb-true, eqb-false, eq-eqb, ne_eqb, lt-ltb}
use Rattle.basics.specs.Numbers.{NONE}
use Rattle.basics.proofs.Tests.{yes!, no!, is, none_some}
use Rattle.basics.proofs.Maps.{put, put_here, put_other}
use Rattle.eviction.specs.declared.Entry.{Entry}
use Rattle.eviction.specs.declared.EvictionHeap.{EvictionHeap}
use Rattle.eviction.specs.Entries.{heap_of, entry_of, at, pos_of}
use Rattle.eviction.specs.Heap.{popped, put_at, settle, remove_at, remove_heap}
use Rattle.laws_table.specs.Heap.{rank, rank_at, parent, Heaped, Holds}
use Rattle.laws_table.proofs.Sifts.{Sifted}
use Rattle.laws_table.proofs.SiftUp.{Rising, rests, climbs, climb, sift_up_lem}
use Rattle.laws_table.proofs.SiftDown.{Sinking, sift_down_lem}
use Rattle.laws_table.proofs.HeapSizes as sizes

module _ (c : ℕ) (h : EvictionHeap) (f : ℕ → Option ℕ) (r : Holds c h f) (x v : ℕ) (hx : x < c) (fx : f x ≡ some v) where
  abbrev i : ℕ
  i = pos_of h x

  abbrev last : ℕ
  last = h.len - 1

  i< : i < h.len
  i< = sizes.spot< c h f r x v hx fx

  not_x : (k : ℕ) → k < h.len → (k ≡ i → ⊥) → (at h k).slot ≡ x → ⊥
  not_x = sizes.only c h f r x v hx fx

  -- a slot that is left is not x, and was there
  left_ne : (s w : ℕ) → put x none f s ≡ some w → s ≡ x → ⊥
  left_ne s w e q = none_some (sym (put_here x none f) ∙ ap (put x none f) (sym q) ∙ e)

  left : (s w : ℕ) → put x none f s ≡ some w → f s ≡ some w
  left s w e = sym (put_other x none f s (left_ne s w e)) ∙ e

  -- its place is not that of x
  left_place : (s w : ℕ) → s < c → put x none f s ≡ some w → pos_of h s ≡ i → ⊥
  left_place s w hs e z = left_ne s w e (sym (r.spot s w hs (left s w e)).1 ∙ ap (λ (m : ℕ). (at h m).slot) z ∙ sizes.spot_slot c h f r x v hx fx)

  -- x was at the last place
  module _ (end : i ≡ last) where
    abbrev less : EvictionHeap
    less = heap_of (set h.entries last (entry_of 0 0)) last (set h.positions x NONE)

    at_less : (k : ℕ) → k < last → at less k ≡ at h k
    at_less k hk = get_or-set_other h.entries last k (entry_of 0 0) (entry_of 0 0) (omega arith)

    pos_less : (s : ℕ) → (s ≡ x → ⊥) → pos_of less s ≡ pos_of h s
    pos_less s n = get_or-set_other h.positions x s NONE 0 n

    spotted_less : (s p : ℕ) → pos_of less s ≡ p → p < last → (at h p).slot ≡ s → (pos_of less s < last) × ((at less (pos_of less s)).slot ≡ s)
    spotted_less s p e hp q = rw (e, at_less p hp) (hp, q)

    spot_less : (s w : ℕ) → s < c → put x none f s ≡ some w → (pos_of less s < last) × ((at less (pos_of less s)).slot ≡ s)
    spot_less s w hs e =
        let o = r.spot s w hs (left s w e) in
        spotted_less s (pos_of h s) (pos_less s (left_ne s w e)) (omega (arith, left_place s w hs e)) o.1

    gone_less : (s : ℕ) → s < c → put x none f s ≡ none → pos_of less s ≡ NONE
    gone_less s hs e =
        elim (is (eqb s x)) [
          | yes! q ↦ rw (eqb-true s x q) (get_or-set_same h.positions x NONE 0 (omega (arith, r.size_positions, r.small)))
          | no! q ↦ rw (pos_less s (eqb-false s x q)) (r.gone s hs (sym (put_other x none f s (eqb-false s x q)) ∙ e))
        ]

    holds_less : Holds c less (put x none f)
    holds_less =
        record {
          size_entries = rw length-set r.size_entries;
          size_positions = rw length-set r.size_positions;
          small = r.small;
          fits = omega (arith, r.fits);
          low = λ k hk. rw (at_less k hk) (r.low k (omega arith));
          back = λ k hk. rw (at_less k hk, pos_less (at h k).slot (not_x k (omega arith) (omega arith))) (r.back k (omega arith));
          last = λ k hk. rw (at_less k hk, put_other x none f (at h k).slot (not_x k (omega arith) (omega arith))) (r.last k (omega arith));
          spot = spot_less;
          gone = gone_less;
        }

    rank_less : (k : ℕ) → k < last → rank_at less k ≡ rank_at h k
    unfolding rank_at
    rank_less k hk = ap rank (at_less k hk)

    heaped_less : Heaped h → Heaped less
    heaped_less w k hk kl = rw (rank_less k kl, rank_less (parent k) (omega arith)) (w k hk (omega arith))

  -- else the last entry takes its place
  module _ (mid : i ≡ last → ⊥) where
    abbrev moved : Entry
    moved = at h last

    abbrev filled : EvictionHeap
    filled = heap_of (set (set h.entries last (entry_of 0 0)) i moved) last (set (set h.positions x NONE) moved.slot i)

    i<last : i < last
    i<last = omega (arith, i<, mid)

    last< : last < h.len
    last< = omega (arith, i<)

    moved_ne : moved.slot ≡ x → ⊥
    moved_ne = not_x last last< (λ q. mid (sym q))

    at_i : at filled i ≡ moved
    at_i = get_or-set_same (set h.entries last (entry_of 0 0)) i moved (entry_of 0 0) (rw length-set (omega (arith, i<, r.size_entries, r.small, r.fits)))

    at_other : (k : ℕ) → k < last → (k ≡ i → ⊥) → at filled k ≡ at h k
    at_other k hk q = rw (get_or-set_other (set h.entries last (entry_of 0 0)) i k moved (entry_of 0 0) q, get_or-set_other h.entries last k (entry_of 0 0) (entry_of 0 0) (omega arith))

    pos_moved : pos_of filled moved.slot ≡ i
    pos_moved = get_or-set_same (set h.positions x NONE) moved.slot i 0 (rw length-set (omega (arith, r.low last last<, r.size_positions, r.small)))

    pos_other : (s : ℕ) → (s ≡ x → ⊥) → (s ≡ moved.slot → ⊥) → pos_of filled s ≡ pos_of h s
    pos_other s a b = rw (get_or-set_other (set h.positions x NONE) moved.slot s i 0 b, get_or-set_other h.positions x s NONE 0 a)

    by_place : (P : ℕ → Entry → Type 0) → P i moved → ((k : ℕ) → k < last → (k ≡ i → ⊥) → P k (at h k)) → (k : ℕ) → k < last → P k (at filled k)
    by_place P a o k hk =
        elim (is (eqb k i)) [
          | yes! q ↦ rw (eqb-true k i q, at_i) a
          | no! q ↦ rw (at_other k hk (eqb-false k i q)) (o k hk (eqb-false k i q))
        ]

    not_moved : (k : ℕ) → k < last → (at h k).slot ≡ moved.slot → ⊥
    not_moved k hk q = let z : k ≡ last = sym (r.back k (omega arith)) ∙ ap (pos_of h) q ∙ r.back last last< in omega arith

    spotted : (s p : ℕ) → pos_of filled s ≡ p → p < last → (at filled p).slot ≡ s → (pos_of filled s < last) × ((at filled (pos_of filled s)).slot ≡ s)
    spotted s p a hp q = rw a (hp, q)

    spot_filled : (s w : ℕ) → s < c → put x none f s ≡ some w → (pos_of filled s < last) × ((at filled (pos_of filled s)).slot ≡ s)
    spot_filled s w hs a =
        elim (is (eqb s moved.slot)) [
          | yes! q ↦ rw (eqb-true s moved.slot q) (spotted moved.slot i pos_moved i<last (ap (λ (y : Entry). y.slot) at_i))
          | no! q ↦
              let o = r.spot s w hs (left s w a) in
              let end : pos_of h s ≡ last → ⊥ = λ z. eqb-false s moved.slot q (sym o.1 ∙ ap (λ (m : ℕ). (at h m).slot) z) in
              let low : pos_of h s < last = omega (arith, end) in
              spotted s (pos_of h s) (pos_other s (left_ne s w a) (eqb-false s moved.slot q)) low (ap (λ (y : Entry). y.slot) (at_other (pos_of h s) low (left_place s w hs a)) ∙ o.1)
        ]

    gone_filled : (s : ℕ) → s < c → put x none f s ≡ none → pos_of filled s ≡ NONE
    gone_filled s hs a =
        elim (is (eqb s x)) [
          | yes! q ↦ rw (eqb-true s x q, get_or-set_other (set h.positions x NONE) moved.slot x i 0 (λ z. moved_ne (sym z))) (get_or-set_same h.positions x NONE 0 (omega (arith, r.size_positions, r.small)))
          | no! q ↦
              let g : f s ≡ none = sym (put_other x none f s (eqb-false s x q)) ∙ a in
              rw (pos_other s (eqb-false s x q) (λ z. none_some (sym g ∙ ap f z ∙ r.last last last<))) (r.gone s hs g)
        ]

    holds_filled : Holds c filled (put x none f)
    holds_filled =
        record {
          size_entries = rw (length-set, length-set) r.size_entries;
          size_positions = rw (length-set, length-set) r.size_positions;
          small = r.small;
          fits = omega (arith, r.fits);
          low = by_place (λ k y. y.slot < c) (r.low last last<) (λ k hk q. r.low k (omega arith));
          back = by_place (λ k y. pos_of filled y.slot ≡ k) pos_moved (λ k hk q. rw (pos_other (at h k).slot (not_x k (omega arith) q) (not_moved k hk)) (r.back k (omega arith)));
          last = by_place (λ k y. put x none f y.slot ≡ some y.last_access) (rw (put_other x none f moved.slot moved_ne) (r.last last last<))
              (λ k hk q. rw (put_other x none f (at h k).slot (not_x k (omega arith) q)) (r.last k (omega arith)));
          spot = spot_filled;
          gone = gone_filled;
        }

    rank_i : rank_at filled i ≡ rank_at h last
    unfolding rank_at
    rank_i = ap rank at_i

    rank_other : (k : ℕ) → k < last → (k ≡ i → ⊥) → rank_at filled k ≡ rank_at h k
    unfolding rank_at
    rank_other k hk q = ap rank (at_other k hk q)

    over : Heaped h → (k : ℕ) → 0 < k → k < last → parent k ≡ i → 0 < i → rank_at filled (parent i) ≤ rank_at filled k
    over w k hk kl q p = rw (rank_other (parent i) (omega arith) (omega arith), rank_other k kl (omega arith)) (omega (arith, w i p (omega (arith, i<)), rw q at (w k hk (omega arith))))

    -- the entry is older than the one above: only that is out of order
    rising : Heaped h → 0 < i → rank_at filled i < rank_at filled (parent i) → Rising filled i
    rising w pos lt =
        let up : rank_at filled (parent i) ≡ rank_at h (parent i) = rank_other (parent i) (omega (arith, i<last)) (omega arith) in
        record {
          sides = λ k hk kl q. rw (rank_other k kl q) (elim (is (eqb (parent k) i)) [
            | yes! z ↦ rw (eqb-true (parent k) i z) (omega (arith, w i pos (omega (arith, i<)), rw (eqb-true (parent k) i z) at (w k hk (omega arith))))
            | no! z ↦ rw (rank_other (parent k) (omega arith) (eqb-false (parent k) i z)) (w k hk (omega arith))
          ]);
          over = over w;
        }

    -- else only what is below can be
    sinking : Heaped h → (0 < i → rank_at filled (parent i) ≤ rank_at filled i) → Sinking filled i
    sinking w ge =
        record {
          sides = λ k hk kl q. elim (is (eqb k i)) [
            | yes! z ↦ let y : k ≡ i = eqb-true k i z in rw y (ge (omega arith))
            | no! z ↦ rw (rank_other k kl (eqb-false k i z), rank_other (parent k) (omega arith) q) (w k hk (omega arith))
          ];
          over = over w;
        }

    settle_heap : Heaped h → Sifted c (put x none f) last (settle c filled i)
    unfolding settle
    settle_heap w =
        elim (climb c filled (put x none f) holds_filled i i<last) [
          | rests e g ↦ rw (eq-eqb _ i e) (sift_down_lem 256 c filled (put x none f) i holds_filled i<last (omega (arith, r.fits, r.small)) (sinking w g))
          | climbs e pos lt ↦ rw (e, ne_eqb (parent i) i (omega arith)) (sift_up_lem 256 c filled (put x none f) i holds_filled i<last (omega (arith, i<last, r.fits, r.small)) (rising w pos lt))
        ]

  pub remove_heap_lem : Heaped h → Sifted c (put x none f) last (remove_heap c h x)
  unfolding remove_heap remove_at popped put_at
  remove_heap_lem w =
      rw (sizes.place_of_lem c h f r x v hx fx)
      (elim (is (eqb i last)) [
        | yes! q ↦ record { heap = less (eqb-true i last q); gives = rw q; holds = holds_less (eqb-true i last q); heaped = heaped_less (eqb-true i last q) w; len = refl }
        | no! q ↦ rw (q, lt-ltb (at h last).slot c (r.low last (omega (arith, i<)))) (settle_heap (eqb-false i last q) w)
      ])
