-- SPDX-License-Identifier: Apache-2.0
-- `insert` of the index is not refused where the key's chain has room: the slot is the first of that chain, no other chain changes.
-- Assumes nothing.
use Prim.Native.Nat.{ℕ, ◌+◌, ◌<◌, ◌≤◌}
use native.Mathlib.Omega.{arith}
use mathlib.Core.Path.{◌≡◌, refl, sym, ap, ◌∙◌}
use mathlib.Core.List.{List, [], ◌∷◌}
use mathlib.Core.Option.{Option, none, some}
use lib.Dec.{eqb}
use lib.ListN.{length, get_or, set, length-set}
use lib.Seq.{get_or-set_same, get_or-set_other}
use borrow.Author.Tests.{eqb-true, eqb-false, lt-ltb, eq-eqb, ne_eqb}
use Rattle.basics.specs.Try.{Try, ok}
use Rattle.basics.specs.Members.{In, here, there, NotIn}
use Rattle.basics.proofs.Tests.{yes!, no!, is, some_same, none_some}
use Rattle.basics.proofs.Members.{in_case, not_in_list}
use Rattle.basics.proofs.Maps.{put}
use Rattle.key.specs.declared.CacheKey.{CacheKey}
use Rattle.key.specs.Bucket.{bucket_of}
use Rattle.index.specs.declared.Index.{Index}
use Rattle.index.specs.Chain.{CHAIN, head_of, length_of, linked, insert_index}
use Rattle.laws_table.specs.Chains.{Linked, Chains}
use Rattle.laws_table.proofs.ChainWalks.{linked_set, index_sized, can_insert_lem}
use Rattle.key.proofs.Buckets.{bucket_low}

-- the answer is the index with x in front of the chain b
pub record Inserted (c : ℕ) (ix : Index) (g : ℕ → Option ℕ) (before : Chains c ix g) (x b : ℕ) (r : Try Index) : Type 0 where
  pub index : Index
  pub gives : r ≡ ok index
  pub chains : Chains c index (put x (some b) g)
  pub front : chains.chain ≡ put b (x ∷ before.chain b) before.chain
  pub free : index.free ≡ ix.free
  pub free_len_lem : index.free_len ≡ ix.free_len
  pub buckets : index.buckets ≡ ix.buckets

-- a slot put in front
linked_cons : (next : List ℕ) (c s : ℕ) (xs : List ℕ) (x : ℕ) → x < length next → x < c → NotIn x xs → Linked next c s xs → Linked (set next x s) c x (x ∷ xs)
linked_cons next c s xs x hl hx ni h = (refl, hx, rw (get_or-set_same next x s 0 hl) (linked_set next c s xs x s ni h))

head_ne : (next : List ℕ) (c s x : ℕ) (xs : List ℕ) → c ≤ 256 → x < c → NotIn x xs → Linked next c s xs → s ≡ x → ⊥
head_ne next c s x [] hc hx n h e = omega arith
head_ne next c s x (y ∷ ys) hc hx n h e = n.0 (sym e ∙ h.0)

module _ (c : ℕ) (ix : Index) (g : ℕ → Option ℕ) (r : Chains c ix g) (key : CacheKey) (x : ℕ) (hx : x < c) (gx : g x ≡ none) where
  abbrev b : ℕ
  b = bucket_of key ix.buckets

  hb : b < ix.buckets
  hb = bucket_low key ix.buckets r.some_buckets

  -- x is in no chain
  no_x : (d y : ℕ) → In y (r.chain d) → y ≡ x → ⊥
  no_x d y m e = none_some (sym gx ∙ ap g (sym e) ∙ r.member d y m)

  not_x : (d : ℕ) → NotIn x (r.chain d)
  not_x d = not_in_list x (r.chain d) (λ m. no_x d x m refl)

  abbrev longer : Index
  longer = linked ix key x

  abbrev grown : ℕ → List ℕ
  grown = put b (x ∷ r.chain b) r.chain

  grown_linked : (d : ℕ) → d < ix.buckets → Linked longer.next c (get_or longer.heads d 0) (grown d)
  grown_linked d hd =
      elim (is (eqb d b)) [
        | yes! e ↦ rw (e, eqb-true d b e, get_or-set_same ix.heads b x 0 (omega (arith, hb, r.size_heads, r.few_buckets)))
            (linked_cons ix.next c (head_of ix key) (r.chain b) x (omega (arith, r.size_next, r.small)) hx (not_x b) (r.linked b hb))
        | no! e ↦ rw (e, get_or-set_other ix.heads b d x 0 (eqb-false d b e)) (linked_set ix.next c (get_or ix.heads d 0) (r.chain d) x (head_of ix key) (not_x d) (r.linked d hd))
      ]

  grown_counted : (d : ℕ) → d < ix.buckets → get_or longer.lengths d 0 ≡ length (grown d)
  grown_counted d hd =
      elim (is (eqb d b)) [
        | yes! e ↦ rw (e, eqb-true d b e, get_or-set_same ix.lengths b (length_of ix key + 1) 0 (omega (arith, hb, r.size_lengths, r.few_buckets)))
            (omega (arith, r.counted b hb))
        | no! e ↦ rw (e, get_or-set_other ix.lengths b d (length_of ix key + 1) 0 (eqb-false d b e)) (r.counted d hd)
      ]

  chains_insert : length (r.chain b) < CHAIN → Chains c longer (put x (some b) g)
  chains_insert hl =
      record {
        size_heads = rw length-set r.size_heads;
        size_lengths = rw length-set r.size_lengths;
        size_next = rw length-set r.size_next;
        small = r.small;
        some_buckets = r.some_buckets;
        few_buckets = r.few_buckets;
        chain = grown;
        linked = grown_linked;
        once = λ d. elim (is (eqb d b)) [ yes! e ↦ rw e (not_x b, r.once b) | no! e ↦ rw e (r.once d) ];
        short = λ d. elim (is (eqb d b)) [ yes! e ↦ rw e (omega arith) | no! e ↦ rw e (omega (arith, r.short d)) ];
        counted = grown_counted;
        member = λ d y m. elim (is (eqb d b)) [
          | yes! e ↦ in_case (rw e at m) (λ q. rw (q, eq-eqb x x refl, eqb-true d b e)) (λ k. rw (ne_eqb y x (no_x b y k), eqb-true d b e) (r.member b y k))
          | no! e ↦ let k : In y (r.chain d) = rw e at m in rw (ne_eqb y x (no_x d y k)) (r.member d y k)
        ];
        complete = λ d y hy q. elim (is (eqb y x)) [
          | yes! e ↦ let z : b ≡ d = some_same (rw e at q) in rw (eq-eqb d b (sym z), eqb-true y x e) here
          | no! e ↦ let m = r.complete d y hy (rw e at q) in elim (is (eqb d b)) [ yes! z ↦ rw z (there (rw (eqb-true d b z) at m)) | no! z ↦ rw z m ]
        ];
        loose = λ y hy q. elim (is (eqb y x)) [
          | yes! e ↦ absurd (none_some (sym (rw e at q)))
          | no! e ↦ rw (get_or-set_other ix.next x y (head_of ix key) 0 (eqb-false y x e)) (r.loose y hy (rw e at q))
        ];
      }

  pub insert_index_lem : ix.free_len ≤ c → length (r.chain b) < CHAIN → Inserted c ix g r x b (insert_index c ix key x)
  unfolding insert_index chains_insert
  insert_index_lem fits hl =
      record {
        index = longer;
        gives = rw (index_sized c ix g r fits, lt-ltb x c hx, r.loose x hx gx, ne_eqb (head_of ix key) x (head_ne ix.next c (head_of ix key) x (r.chain b) r.small hx (not_x b) (r.linked b hb)), can_insert_lem c ix g r fits key, lt-ltb (length (r.chain b)) CHAIN hl);
        chains = chains_insert hl;
        front = refl;
        free = refl;
        free_len_lem = refl;
        buckets = refl;
      }
