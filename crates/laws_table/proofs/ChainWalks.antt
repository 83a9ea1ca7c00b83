-- SPDX-License-Identifier: Apache-2.0
-- Walks along a chain: what a walk gives is what it gives of the chain's list; and stores beside a chain. Assumes nothing.
use Prim.Native.Nat.{ℕ, zero, suc, ◌<◌, ◌≤◌}
use native.Mathlib.Omega.{arith}
use mathlib.Core.Path.{◌≡◌, refl, sym, ◌∙◌}
use mathlib.Core.Bool.{true}
use mathlib.Core.List.{List, [], ◌∷◌}
use mathlib.Core.Option.{Option}
use lib.Dec.{ltb}
use lib.ListN.{length, get_or, set}
use lib.Seq.{get_or-set_other}
use borrow.Author.Tests.{lt-ltb, le-leb}
use Rattle.basics.specs.Try.{ok}
use Rattle.basics.specs.Numbers.{NONE}
use Rattle.basics.specs.Members.{In, here, there, NotIn}
use Rattle.key.specs.declared.CacheKey.{CacheKey}
use Rattle.key.specs.Bucket.{bucket_of}
use Rattle.key.proofs.Buckets.{bucket_low}
use Rattle.index.specs.declared.Index.{Index}
use Rattle.index.specs.Chain.{CHAIN, sizes, sized, can_insert}
use Rattle.laws_table.specs.Chains.{Linked, Chains}

-- a walk that ends at `NONE` and else goes on by `next`, of n steps: over a chain of at most n slots, each of which has P, it gives
-- what `answer` gives of their list
pub walk_linked : {A : Type 0} (walk : ℕ → ℕ → A) (answer : ℕ → List ℕ → A) (P : ℕ → Type 0) (next : List ℕ) (c : ℕ)
    → ((n : ℕ) → walk n NONE ≡ answer n [])
    → ((n x : ℕ) (xs : List ℕ) → x < c → P x → walk n (get_or next x 0) ≡ answer n xs → walk (suc n) x ≡ answer (suc n) (x ∷ xs))
    → (n s : ℕ) (xs : List ℕ) → Linked next c s xs → ((x : ℕ) → In x xs → P x) → length xs ≤ n → walk n s ≡ answer n xs
walk_linked walk answer P next c end step n s [] h p hn = rw h (end n)
walk_linked walk answer P next c end step zero s (x ∷ xs) h p hn = absurd (omega arith)
walk_linked walk answer P next c end step (suc n) s (x ∷ xs) h p hn =
    rw h.0 (step n x xs h.1 (p x here) (walk_linked walk answer P next c end step n (get_or next x 0) xs h.2 (λ y m. p y (there m)) (omega arith)))

-- the links decide the list
pub linked_one : (next : List ℕ) (c s : ℕ) (xs ys : List ℕ) → c ≤ 256 → Linked next c s xs → Linked next c s ys → xs ≡ ys
linked_one next c s [] [] hc h k = refl
linked_one next c s [] (y ∷ ys) hc h k = absurd (omega (arith, h, k.0, k.1))
linked_one next c s (x ∷ xs) [] hc h k = absurd (omega (arith, k, h.0, h.1))
linked_one next c s (x ∷ xs) (y ∷ ys) hc h k =
    let e : y ≡ x = sym k.0 ∙ h.0 in
    let rest : Linked next c (get_or next x 0) ys = rw e at k.2 in
    rw (e, linked_one next c (get_or next x 0) xs ys hc h.2 rest)

-- every slot of a chain is below the capacity; in the first the slot stands before the link, since a recursion over `In y` keeps y
low_along : (next : List ℕ) (c y s : ℕ) {xs : List ℕ} → Linked next c s xs → In y xs → y < c
low_along next c y s h (here {l = xs}) = h.1
low_along next c y s h (there {b = x} m) = low_along next c y (get_or next x 0) h.2 m

pub linked_low : (next : List ℕ) (c s : ℕ) {y : ℕ} {xs : List ℕ} → Linked next c s xs → In y xs → y < c
linked_low next c s {y} {xs} h m = low_along next c y s h m

-- a store to a slot that is none of the list's leaves the list linked
pub linked_set : (next : List ℕ) (c s : ℕ) (xs : List ℕ) (x v : ℕ) → NotIn x xs → Linked next c s xs → Linked (set next x v) c s xs
linked_set next c s [] x v ni h = h
linked_set next c s (y ∷ ys) x v ni h =
    (h.0, h.1, rw (get_or-set_other next x y v 0 (λ e. ni.0 (sym e))) (linked_set next c (get_or next y 0) ys x v ni.1 h.2))

module _ (c : ℕ) (ix : Index) (g : ℕ → Option ℕ) (r : Chains c ix g) (fits : ix.free_len ≤ c) where
  -- the first test of the index's rules passes
  pub index_sized : sized c ix ≡ true
  unfolding sizes
  index_sized = rw (le-leb c 256 r.small, lt-ltb 0 ix.buckets r.some_buckets, le-leb ix.buckets 512 r.few_buckets, le-leb ix.free_len c fits)

  -- `can_insert`, by the length kept: whether the key's chain has fewer than 64 slots
  pub can_insert_lem : (key : CacheKey) → can_insert c ix key ≡ ok (ltb (length (r.chain (bucket_of key ix.buckets))) CHAIN)
  unfolding can_insert
  can_insert_lem key = rw (index_sized, r.counted (bucket_of key ix.buckets) (bucket_low key ix.buckets r.some_buckets))
