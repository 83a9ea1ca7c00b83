-- SPDX-License-Identifier: Apache-2.0
-- `insert` of the heap is not refused for a slot that it has not, keeps the invariant, and adds that slot only. Assumes nothing.
use Prim.Native.Nat.{ℕ, ◌+◌, ◌<◌}
use native.Mathlib.Omega.{arith}
use mathlib.Core.Path.{◌≡◌, sym, ap, ◌∙◌}
use mathlib.Core.Option.{Option, none, some}
use lib.Dec.{eqb}
use lib.ListN.{set, length-set}
use lib.Seq.{get_or-set_same, get_or-set_other}
use borrow.Author.Tests.{eqb-true, eqb-false, lt-ltb}
use Rattle.basics.specs.Numbers.{NONE}
use Rattle.basics.proofs.Tests.{yes!, no!, is, none_some}
use Rattle.basics.proofs.Maps.{put, put_here, put_other}
use Rattle.eviction.specs.declared.Entry.{Entry}
use Rattle.eviction.specs.declared.EvictionHeap.{EvictionHeap}
use Rattle.eviction.specs.Entries.{heap_of, entry_of, at, pos_of}
use Rattle.eviction.specs.Heap.{insert_heap}
use Rattle.laws_table.specs.Heap.{rank, rank_at, parent, Heaped, Holds}
use Rattle.laws_table.proofs.Sifts.{Sifted}
use Rattle.laws_table.proofs.SiftUp.{Rising, sift_up_lem}
use Rattle.laws_table.proofs.HeapSizes.{heap_sized}

module _ (c : ℕ) (h : EvictionHeap) (f : ℕ → Option ℕ) (r : Holds c h f) (x u : ℕ) (hx : x < c) (fx : f x ≡ none) (hl : h.len < c) where
  -- the slot at the end
  abbrev grown : EvictionHeap
  grown = heap_of (set h.entries h.len (entry_of x u)) (h.len + 1) (set h.positions x h.len)

  at_end : at grown h.len ≡ entry_of x u
  at_end = get_or-set_same h.entries h.len (entry_of x u) (entry_of 0 0) (omega (arith, r.size_entries, r.small))

  at_old : (k : ℕ) → k < h.len → at grown k ≡ at h k
  at_old k hk = get_or-set_other h.entries h.len k (entry_of x u) (entry_of 0 0) (omega arith)

  pos_new : pos_of grown x ≡ h.len
  pos_new = get_or-set_same h.positions x h.len 0 (omega (arith, r.size_positions, r.small))

  pos_old : (s : ℕ) → (s ≡ x → ⊥) → pos_of grown s ≡ pos_of h s
  pos_old s n = get_or-set_other h.positions x s h.len 0 n

  -- x stands at no old place
  absent : (k : ℕ) → k < h.len → (at h k).slot ≡ x → ⊥
  absent k hk e = none_some (sym fx ∙ ap f (sym e) ∙ r.last k hk)

  by_place : (P : ℕ → Entry → Type 0) → P h.len (entry_of x u) → ((k : ℕ) → k < h.len → P k (at h k)) → (k : ℕ) → k < h.len + 1 → P k (at grown k)
  by_place P a o k hk =
      elim (is (eqb k h.len)) [
        | yes! e ↦ rw (eqb-true k h.len e, at_end) a
        | no! e ↦ let lt : k < h.len = omega (arith, eqb-false k h.len e) in rw (at_old k lt) (o k lt)
      ]

  spotted : (s p : ℕ) → pos_of grown s ≡ p → p < h.len + 1 → (at grown p).slot ≡ s → (pos_of grown s < h.len + 1) × ((at grown (pos_of grown s)).slot ≡ s)
  spotted s p e hp q = rw e (hp, q)

  spot_grown : (s v : ℕ) → s < c → put x (some u) f s ≡ some v → (pos_of grown s < h.len + 1) × ((at grown (pos_of grown s)).slot ≡ s)
  spot_grown s v hs e =
      elim (is (eqb s x)) [
        | yes! q ↦ rw (eqb-true s x q) (spotted x h.len pos_new (omega arith) (ap (λ (y : Entry). y.slot) at_end))
        | no! q ↦ let o = r.spot s v hs (sym (put_other x (some u) f s (eqb-false s x q)) ∙ e) in
            spotted s (pos_of h s) (pos_old s (eqb-false s x q)) (omega arith) (ap (λ (y : Entry). y.slot) (at_old (pos_of h s) o.0) ∙ o.1)
      ]

  gone_grown : (s : ℕ) → s < c → put x (some u) f s ≡ none → pos_of grown s ≡ NONE
  gone_grown s hs e =
      elim (is (eqb s x)) [
        | yes! q ↦ absurd (none_some (sym (rw q at e)))
        | no! q ↦ rw (pos_old s (eqb-false s x q)) (r.gone s hs (sym (put_other x (some u) f s (eqb-false s x q)) ∙ e))
      ]

  holds_grown : Holds c grown (put x (some u) f)
  holds_grown =
      record {
        size_entries = rw length-set r.size_entries;
        size_positions = rw length-set r.size_positions;
        small = r.small;
        fits = omega arith;
        low = by_place (λ k e. e.slot < c) hx r.low;
        back = by_place (λ k e. pos_of grown e.slot ≡ k) pos_new (λ k hk. rw (pos_old (at h k).slot (absent k hk)) (r.back k hk));
        last = by_place (λ k e. put x (some u) f e.slot ≡ some e.last_access) (put_here x (some u) f) (λ k hk. rw (put_other x (some u) f (at h k).slot (absent k hk)) (r.last k hk));
        spot = spot_grown;
        gone = gone_grown;
      }

  rank_old : (k : ℕ) → k < h.len → rank_at grown k ≡ rank_at h k
  unfolding rank_at
  rank_old k hk = ap rank (at_old k hk)

  rising : Heaped h → Rising grown h.len
  rising w =
      record {
        sides = λ k hk kl n. rw (rank_old k (omega arith), rank_old (parent k) (omega arith)) (w k hk (omega arith));
        over = λ k hk kl e p. absurd (omega arith);
      }

  pub insert_heap_lem : Heaped h → Sifted c (put x (some u) f) (h.len + 1) (insert_heap c h x u)
  unfolding insert_heap
  insert_heap_lem w =
      rw (heap_sized c h f r, lt-ltb x c hx, r.gone x hx fx, lt-ltb h.len c hl)
      (sift_up_lem 256 c grown (put x (some u) f) h.len holds_grown (omega arith) (omega (arith, r.small)) (rising w))
