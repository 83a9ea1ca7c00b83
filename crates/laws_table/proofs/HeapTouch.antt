-- SPDX-License-Identifier: Apache-2.0
-- `touch` is not refused for a held slot and a greater last use, keeps the invariant, and changes that last use only. Assumes nothing.
use Prim.Native.Nat.{ℕ, ◌<◌, ◌≤◌}
use native.Mathlib.Omega.{arith}
use mathlib.Core.Path.{◌≡◌, refl, sym, ap, ◌∙◌}
use mathlib.Core.Option.{Option, none, some}
use lib.Dec.{eqb}
use lib.ListN.{set, length-set}
use lib.Seq.{get_or-set_same, get_or-set_other}
use borrow.Author.Tests.{eqb-true, eqb-false, lt-ltb}
use Rattle.basics.specs.Numbers.{NONE}
use Rattle.basics.proofs.Tests.{yes!, no!, is, none_some}
use Rattle.basics.proofs.Maps.{put, put_here, put_other}
use Rattle.eviction.specs.declared.Entry.{Entry}
use Rattle.eviction.specs.declared.EvictionHeap.{EvictionHeap}
use Rattle.eviction.specs.Entries.{heap_of, entry_of, at, pos_of}
use Rattle.eviction.specs.Heap.{touch_at, touch_heap}
use Rattle.laws_table.specs.Heap.{rank, rank_at, parent, Heaped, Holds}
use Rattle.laws_table.proofs.Sifts.{Sifted}
use Rattle.laws_table.proofs.SiftDown.{Sinking, sift_down_lem}
use Rattle.laws_table.proofs.HeapSizes as sizes

module _ (c : ℕ) (h : EvictionHeap) (f : ℕ → Option ℕ) (r : Holds c h f) (x v u : ℕ) (hx : x < c) (fx : f x ≡ some v) where
  abbrev i : ℕ
  i = pos_of h x

  i< : i < h.len
  i< = sizes.spot< c h f r x v hx fx

  -- the entry of x with its new last use
  abbrev later : EvictionHeap
  later = heap_of (set h.entries i (entry_of x u)) h.len h.positions

  at_i : at later i ≡ entry_of x u
  at_i = get_or-set_same h.entries i (entry_of x u) (entry_of 0 0) (omega (arith, i<, r.size_entries, r.small, r.fits))

  at_other : (k : ℕ) → (k ≡ i → ⊥) → at later k ≡ at h k
  at_other k n = get_or-set_other h.entries i k (entry_of x u) (entry_of 0 0) n

  by_place : (P : ℕ → Entry → Type 0) → P i (entry_of x u) → ((k : ℕ) → k < h.len → (k ≡ i → ⊥) → P k (at h k)) → (k : ℕ) → k < h.len → P k (at later k)
  by_place P a o k hk =
      elim (is (eqb k i)) [
        | yes! e ↦ rw (eqb-true k i e, at_i) a
        | no! e ↦ rw (at_other k (eqb-false k i e)) (o k hk (eqb-false k i e))
      ]

  spot_later : (s w : ℕ) → s < c → put x (some u) f s ≡ some w → (pos_of h s < h.len) × ((at later (pos_of h s)).slot ≡ s)
  spot_later s w hs e =
      elim (is (eqb s x)) [
        | yes! q ↦ rw (eqb-true s x q) (i<, ap (λ (y : Entry). y.slot) at_i)
        | no! q ↦
            let o = r.spot s w hs (sym (put_other x (some u) f s (eqb-false s x q)) ∙ e) in
            let off : pos_of h s ≡ i → ⊥ = λ z. eqb-false s x q (sym o.1 ∙ ap (λ (m : ℕ). (at h m).slot) z ∙ sizes.spot_slot c h f r x v hx fx) in
            (o.0, ap (λ (y : Entry). y.slot) (at_other (pos_of h s) off) ∙ o.1)
      ]

  gone_later : (s : ℕ) → s < c → put x (some u) f s ≡ none → pos_of h s ≡ NONE
  gone_later s hs e =
      elim (is (eqb s x)) [
        | yes! q ↦ absurd (none_some (sym (rw q at e)))
        | no! q ↦ r.gone s hs (sym (put_other x (some u) f s (eqb-false s x q)) ∙ e)
      ]

  holds_later : Holds c later (put x (some u) f)
  holds_later =
      record {
        size_entries = rw length-set r.size_entries;
        size_positions = r.size_positions;
        small = r.small;
        fits = r.fits;
        low = by_place (λ k e. e.slot < c) hx (λ k hk n. r.low k hk);
        back = by_place (λ k e. pos_of h e.slot ≡ k) refl (λ k hk n. r.back k hk);
        last = by_place (λ k e. put x (some u) f e.slot ≡ some e.last_access) (put_here x (some u) f)
            (λ k hk n. rw (put_other x (some u) f (at h k).slot (sizes.only c h f r x v hx fx k hk n)) (r.last k hk));
        spot = spot_later;
        gone = gone_later;
      }

  rank_other : (k : ℕ) → (k ≡ i → ⊥) → rank_at later k ≡ rank_at h k
  unfolding rank_at
  rank_other k n = ap rank (at_other k n)

  rank_more : v < u → rank_at h i ≤ rank_at later i
  unfolding rank rank_at
  rank_more lt = rw at_i (omega (arith, sizes.spot_slot c h f r x v hx fx, sizes.spot_last c h f r x v hx fx))

  sinking : v < u → Heaped h → Sinking later i
  sinking lt w =
      record {
        sides = λ k hk kl n. elim (is (eqb k i)) [
          | yes! e ↦ let q : k ≡ i = eqb-true k i e in rw (q, rank_other (parent i) (omega arith)) (omega (arith, rank_more lt, w i (omega arith) i<))
          | no! e ↦ rw (rank_other k (eqb-false k i e), rank_other (parent k) n) (w k hk kl)
        ];
        over = λ k hk kl e p. rw (rank_other (parent i) (omega arith), rank_other k (omega arith)) (omega (arith, w i p i<, rw e at (w k hk kl)));
      }

  -- "Touch needs a greater last use."
  pub touch_heap_lem : v < u → Heaped h → Sifted c (put x (some u) f) h.len (touch_heap c h x u)
  unfolding touch_heap touch_at
  touch_heap_lem lt w =
      rw (sizes.place_of_lem c h f r x v hx fx, lt-ltb (at h i).last_access u (omega (arith, sizes.spot_last c h f r x v hx fx)))
      (sift_down_lem 256 c later (put x (some u) f) i holds_later i< (omega (arith, r.fits, r.small)) (sinking lt w))
