-- SPDX-License-Identifier: Apache-2.0
-- The rule's `older` is the order of the ranks, and the root has the least. Assumes nothing.
use Prim.Native.Nat.{ℕ, zero, suc, ◌<◌, ◌≤◌}
use native.Mathlib.Omega.{arith}
use mathlib.Core.Path.{◌≡◌, sym, ◌∙◌}
use mathlib.Core.Bool.{false}
use mathlib.Core.Option.{Option, some}
use lib.Dec.{ltb, eqb}
use borrow.Author.Tests.{ltb-true, ltb-false, lt-ltb, le-ltb, eqb-true, eqb-false}
use Rattle.basics.proofs.Tests.{yes!, no!, is, some_same}
use Rattle.eviction.specs.declared.Entry.{Entry}
use Rattle.eviction.specs.declared.EvictionHeap.{EvictionHeap}
use Rattle.eviction.specs.Entries.{entry_of, at, pos_of, older}
use Rattle.laws_table.specs.Heap.{rank, rank_at, parent, Heaped, Holds}

-- "Older means smaller last use, then smaller slot."
pub older_rank : (a b : Entry) → a.slot < 65536 → b.slot < 65536 → older a b ≡ ltb (rank a) (rank b)
unfolding rank older
older_rank a b ha hb =
    elim (is (ltb a.last_access b.last_access)) [
      | yes! e ↦ rw (e, lt-ltb (rank a) (rank b) (omega (arith, ltb-true a.last_access b.last_access e)))
      | no! e ↦ elim (is (ltb b.last_access a.last_access)) [
        | yes! q ↦ rw (e, q, le-ltb (rank a) (rank b) (omega (arith, ltb-true b.last_access a.last_access q)))
        | no! q ↦
            let same : a.last_access ≡ b.last_access = omega (arith, ltb-false a.last_access b.last_access e, ltb-false b.last_access a.last_access q) in
            rw (e, q) (elim (is (ltb a.slot b.slot)) [
              | yes! r ↦ rw (r, lt-ltb (rank a) (rank b) (omega (arith, ltb-true a.slot b.slot r)))
              | no! r ↦ rw (r, le-ltb (rank a) (rank b) (omega (arith, ltb-false a.slot b.slot r)))
            ])
      ]
    ]

module _ (c : ℕ) (h : EvictionHeap) (f : ℕ → Option ℕ) (r : Holds c h f) where
  pub older_at : (i j : ℕ) → i < h.len → j < h.len → older (at h i) (at h j) ≡ ltb (rank_at h i) (rank_at h j)
  unfolding rank_at
  older_at i j hi hj = older_rank (at h i) (at h j) (omega (arith, r.low i hi, r.small)) (omega (arith, r.low j hj, r.small))

  -- the order as `assert_valid` tests it: `assert!(!entry.older_than(self.entries[(position - 1) / 2]))`
  pub not_older : Heaped h → (k : ℕ) → 0 < k → k < h.len → older (at h k) (at h (parent k)) ≡ false
  not_older w k hk kl = older_at k (parent k) kl (omega arith) ∙ le-ltb (rank_at h k) (rank_at h (parent k)) (w k hk kl)

  -- and that test is enough
  pub heaped_older : ((k : ℕ) → 0 < k → k < h.len → older (at h k) (at h (parent k)) ≡ false) → Heaped h
  heaped_older o k hk kl = ltb-false (rank_at h k) (rank_at h (parent k)) (sym (older_at k (parent k) kl (omega arith)) ∙ o k hk kl)

root_under : (h : EvictionHeap) → Heaped h → (n j : ℕ) → j ≤ n → j < h.len → rank_at h 0 ≤ rank_at h j
root_under h w zero j hn hj = let q : j ≡ 0 = omega arith in rw q (omega arith)
root_under h w (suc n) j hn hj =
    elim (is (eqb j 0)) [
      | yes! e ↦ rw (eqb-true j 0 e) (omega arith)
      | no! e ↦ let pos : 0 < j = omega (arith, eqb-false j 0 e) in omega (arith, root_under h w n (parent j) (omega arith) (omega arith), w j pos hj)
    ]

-- no place has a smaller rank than the root
pub root_places : (h : EvictionHeap) → Heaped h → (j : ℕ) → j < h.len → rank_at h 0 ≤ rank_at h j
root_places h w j hj = root_under h w j j (omega arith) hj

-- no held slot has a smaller rank than the root
pub root_least : (c : ℕ) (h : EvictionHeap) (f : ℕ → Option ℕ) → Holds c h f → Heaped h → (s u : ℕ) → s < c → f s ≡ some u → rank_at h 0 ≤ rank (entry_of s u)
unfolding rank_at rank
root_least c h f r w s u hs e =
    let p = r.spot s u hs e in
    let a = r.last (pos_of h s) p.0 in
    let b = p.1 in
    let l : (at h (pos_of h s)).last_access ≡ u = some_same (sym a ∙ (rw b) ∙ e) in
    omega (arith, root_places h w (pos_of h s) p.0)
