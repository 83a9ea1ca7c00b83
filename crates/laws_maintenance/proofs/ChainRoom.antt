-- SPDX-License-Identifier: Apache-2.0
-- Which chains have room: a greater table has room for every key of the old one; a chain has no more slots than are clean; and a full chain
-- stays full. Assumes nothing.
use Prim.Native.Nat.{ℕ, ◌*◌, ◌<◌, ◌≤◌}
use native.Mathlib.Omega.{arith}
use mathlib.Core.Path.{◌≡◌, refl, sym, ap, ◌∙◌, subst}
use mathlib.Core.Bool.{true}
use lib.Dec.{ltb}
use lib.ListN.{length}
use borrow.Author.Tests.{ltb-false, le-ltb}
use Rattle.basics.specs.Try.{ok}
use Rattle.basics.specs.Members.{In}
use Rattle.basics.proofs.Tests.{ok_same}
use Rattle.basics.proofs.Members.{cut, cut_shorter, in_cut, inject, in_map, in_down}
use Rattle.key.specs.declared.CacheKey.{CacheKey}
use Rattle.key.specs.Bucket.{bucket_of, bucket_count}
use Rattle.key.proofs.Least.{counts_divide}
use Rattle.key.proofs.Buckets.{bucket_low, bucket_coarse}
use Rattle.index.specs.Chain.{CHAIN, can_insert}
use Rattle.eviction.specs.Entries.{at, pos_of}
use Rattle.state.specs.declared.State.{State}
use Rattle.state.specs.Slots.{slot_at, is_clean}
use Rattle.laws_table.specs.Table.{bucket_in, Inv, Absent}
use Rattle.laws_table.proofs.ChainWalks.{can_insert_lem}
use Rattle.laws_table.proofs.SlotKinds.{clean_occupied}
use Rattle.laws_table.proofs.TableParts.{heap_slots, heap_length, place_of_lem, clean_len}
use Rattle.laws_table.proofs.StepReserve.{chain_of}
use Rattle.laws_table.proofs.KeySearch.{in_chain, chain_in}
use Rattle.laws_maintenance.specs.Calm.{Calm, Full}
use Rattle.laws_maintenance.specs.Drawn.{Drawn}
use Rattle.laws_maintenance.proofs.Lists.{inject_by}
use Rattle.laws_maintenance.proofs.CalmTables.{calm_clean, one_clean}
use Rattle.laws_maintenance.proofs.Draws.{Over}

-- ── the slots of a chain ──
-- clean, with a key of that bucket
chain_slot : (n : State) (v : Inv n) → n.loading ≡ 0 → (k : CacheKey) (x : ℕ) → In x (chain_of n v k) → (x < n.capacity) × (is_clean (slot_at n x) ≡ true) × (bucket_of (slot_at n x).key n.index.buckets ≡ bucket_of k n.index.buckets)
chain_slot n v q k x m =
    let (hx, o, e) = in_chain n v (bucket_of k n.index.buckets) (bucket_low k n.index.buckets v.chains.some_buckets) x m in
    (hx, calm_clean n v q x hx o, e)

-- a clean slot is in the chain of each key of its bucket
slot_chain : (n : State) (v : Inv n) (k : CacheKey) (x : ℕ) → x < n.capacity → is_clean (slot_at n x) ≡ true → bucket_of (slot_at n x).key n.index.buckets ≡ bucket_of k n.index.buckets → In x (chain_of n v k)
slot_chain n v k x hx c e = subst (λ (b : ℕ). In x (v.chains.chain b)) e (chain_in n v x hx (clean_occupied (slot_at n x) c))

-- no more than are clean
pub chain_fits : (n : State) (v : Inv n) → n.loading ≡ 0 → (k : CacheKey) → length (chain_of n v k) ≤ n.clean
chain_fits n v q k =
    let h = n.eviction in
    let in_heap : (x : ℕ) → In x (chain_of n v k) → In x (heap_slots h h.len) = λ x m.
    let (hx, c, e) = chain_slot n v q k x m in
    let (low, same) = place_of_lem v x hx c in
    rw same at (in_map (λ (j : ℕ). (at h j).slot) (in_down h.len (pos_of h x) low)) in
    omega (arith, inject (chain_of n v k) (heap_slots h h.len) (v.chains.once (bucket_of k n.index.buckets)) in_heap, heap_length h h.len, clean_len v)

-- ── full chains ──
module _ (n : State) (v : Inv n) (k : CacheKey) where
  room_test : can_insert n.capacity n.index k ≡ ok (ltb (length (chain_of n v k)) CHAIN)
  room_test = can_insert_lem n.capacity n.index (bucket_in n.index.buckets n.slots) v.chains v.stack.fits k

  pub long_full : CHAIN ≤ length (chain_of n v k) → Full n k
  long_full h = room_test ∙ rw (le-ltb (length (chain_of n v k)) CHAIN h)

  pub full_long : Full n k → CHAIN ≤ length (chain_of n v k)
  full_long e = ltb-false (length (chain_of n v k)) CHAIN (ok_same (sym room_test ∙ e))

-- a chain that is full stays so where no key goes
pub full_over : {n u : State} → Calm n → Calm u → Over n u → (k : CacheKey) → Full n k → Full u k
full_over {n} {u} a b o k f =
    let same : u.index.buckets ≡ n.index.buckets = b.inv.rule ∙ ap bucket_count o.capacity ∙ sym a.inv.rule in
    let stays : (x : ℕ) → In x (chain_of n a.inv k) → In x (chain_of u b.inv k) = λ x m.
    let (hx, c, e) = chain_slot n a.inv a.quiet k x m in
    let q : slot_at u x ≡ slot_at n x = o.kept x hx c in
    slot_chain u b.inv k x (omega (arith, o.capacity)) (rw q c) (rw (same, q) e) in
    long_full u b.inv k (omega (arith, full_long n a.inv k f, inject (chain_of n a.inv k) (chain_of u b.inv k) (a.inv.chains.once (bucket_of k n.index.buckets)) stays))

-- ── a greater table ──
-- x of the new table has the key of q of the old one
abbrev pub Same : State → State → ℕ → ℕ → Type 0
Same o n x q = (x < n.capacity) × (is_clean (slot_at n x) ≡ true) × ((slot_at n x).key ≡ (slot_at o q).key)

pub same_one : (o n : State) → Calm n → (x y q : ℕ) → Same o n x q → Same o n y q → x ≡ y
same_one o n w x y q a b = one_clean w x y a.0 b.0 a.1 b.1 (a.2 ∙ sym b.2)

module _ (o : State) (w : Calm o) (n : State) (d : Drawn o n) (grows : o.capacity < n.capacity) (s : ℕ) (hs : s < o.capacity) (cs : is_clean (slot_at o s) ≡ true) (ab : Absent n (slot_at o s).key) where
  abbrev k : CacheKey
  k = (slot_at o s).key

  -- the slots of the new chain come from the old one, and s is none of them
  old_slot : (x : ℕ) → In x (chain_of n d.calm.inv k) → (q : ℕ) × In q (cut s (chain_of o w.inv k)) × Same o n x q
  old_slot x m =
      let (hx, c, e) = chain_slot n d.calm.inv d.calm.quiet k x m in
      let g = d.origin x hx c in
      let (j, times) = counts_divide o.capacity n.capacity (omega arith) (omega (arith, d.calm.inv.small)) in
      let product : n.index.buckets ≡ o.index.buckets * j = d.calm.inv.rule ∙ times ∙ ap (λ (b : ℕ). b * j) (sym w.inv.rule) in
      let coarse : bucket_of (slot_at o g.slot).key o.index.buckets ≡ bucket_of k o.index.buckets = bucket_coarse (slot_at o g.slot).key k o.index.buckets n.index.buckets j product (sym (ap (λ (z : CacheKey). bucket_of z n.index.buckets) g.key) ∙ e) in (
        g.slot,
        in_cut (slot_chain o w.inv k g.slot g.low g.clean coarse) (λ z. ab x hx (clean_occupied (slot_at n x) c) (g.key ∙ ap (λ (y : ℕ). (slot_at o y).key) z)),
        (hx, c, g.key),
      )

  pub chain_room : length (chain_of n d.calm.inv k) < CHAIN
  chain_room =
      omega (
        arith,
        inject_by (Same o n) (chain_of n d.calm.inv k) (cut s (chain_of o w.inv k)) (d.calm.inv.chains.once (bucket_of k n.index.buckets)) old_slot (same_one o n d.calm),
        cut_shorter (slot_chain o w.inv k s hs cs refl),
        w.inv.chains.short (bucket_of k o.index.buckets),
      )

  -- so no chain of a greater table is full for a key of the old one
  pub not_full : Full n k → ⊥
  not_full f = omega (arith, full_long n d.calm.inv k f, chain_room)
