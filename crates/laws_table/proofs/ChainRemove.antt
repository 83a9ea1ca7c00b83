-- SPDX-License-Identifier: Apache-2.0
-- `remove` of the index is not refused for a slot of the key's chain: it is taken out of that chain, which keeps its order, and no
-- other chain changes. Assumes nothing.
use Rattle.std.proofs.Common.{if◌then◌else◌}
use Prim.Native.Nat.{ℕ, zero, suc, ◌-◌, ◌<◌, ◌≤◌}
use native.Mathlib.Omega.{arith}
use mathlib.Core.Path.{◌≡◌, refl, sym, ap, subst, ◌∙◌}
use mathlib.Core.Bool.{false}
use mathlib.Core.List.{List, [], ◌∷◌}
use mathlib.Core.Option.{Option, none, some}
use lib.Dec.{eqb}
use lib.ListN.{length, get_or, set, length-set}
use lib.Seq.{get_or-set_same, get_or-set_other}
use borrow.Author.Tests.{eqb-true, eqb-false, lt-ltb, lt-leb, eq-eqb, ne_eqb}
use Rattle.basics.specs.Try.{Try, ok}
use Rattle.basics.specs.Numbers.{NONE}
use Rattle.basics.specs.Members.{In, here, there, NotIn, Once}
use Rattle.basics.proofs.Tests.{yes!, no!, is, some_same, none_some}
use Rattle.basics.proofs.Members.{not_in, not_in_list, cut, cut_length, cut_shorter, cut_in, in_cut, once_cut}
use Rattle.basics.proofs.Maps.{put}
use Rattle.key.specs.declared.CacheKey.{CacheKey}
use Rattle.key.specs.Bucket.{bucket_of}
use Rattle.index.specs.declared.Index.{Index}
use Rattle.index.specs.Chain.{CHAIN, head_of, next_of, length_of, unlinked, remove_from, remove_index}
use Rattle.laws_table.specs.Chains.{Linked, Chains}
use Rattle.laws_table.proofs.ChainWalks.{linked_set, linked_low, index_sized}
use Rattle.key.proofs.Buckets.{bucket_low}

-- the answer is the index with x out of the chain b
pub record Removed (c : ℕ) (ix : Index) (g : ℕ → Option ℕ) (before : Chains c ix g) (x b : ℕ) (r : Try Index) : Type 0 where
  pub index : Index
  pub gives : r ≡ ok index
  pub chains : Chains c index (put x none g)
  pub cuts : chains.chain ≡ put b (cut x (before.chain b)) before.chain
  pub free : index.free ≡ ix.free
  pub free_len_lem : index.free_len ≡ ix.free_len
  pub buckets : index.buckets ≡ ix.buckets

-- the slot before x in the list, `previous` where x is the first
unfoldable preceding : ℕ → ℕ → List ℕ → ℕ
preceding previous x [] = previous
preceding previous x (y ∷ ys) = if eqb y x then previous else preceding y x ys

-- the walk of `remove` ends at x, with the slot before it
remove_walk : (n c : ℕ) (ix : Index) (b x previous s : ℕ) (xs : List ℕ) → Linked ix.next c s xs → In x xs → length xs ≤ n
    → remove_from n c ix b x previous s ≡ ok (unlinked ix b (preceding previous x xs) x)
unfolding remove_from preceding
remove_walk zero c ix b x previous s xs h here hn = absurd (omega arith)
remove_walk zero c ix b x previous s xs h (there m) hn = absurd (omega arith)
remove_walk (suc n) c ix b x previous s xs h here hn = rw (h.0, lt-leb c x h.1, eq-eqb x x refl)
remove_walk (suc n) c ix b x previous s xs h (there {b = y} {l = ys} m) hn =
    rw (h.0, lt-leb c y h.1)
    (elim (is (eqb y x)) [ yes! e ↦ rw (e, eqb-true y x e) | no! e ↦ rw e (remove_walk n c ix b x y (next_of ix y) ys h.2 m (omega arith)) ])

-- x stands first in these, since a recursion over `In x` keeps x
before_in : (x z : ℕ) {zs : List ℕ} → In x zs → In (preceding z x zs) (z ∷ zs)
unfolding preceding
before_in x z here = rw (eq-eqb x x refl) here
before_in x z (there {b = w} {l = ws} m) = elim (is (eqb w x)) [ yes! e ↦ rw e here | no! e ↦ rw e (there (before_in x w m)) ]

preceding_in : (z x : ℕ) {zs : List ℕ} → In x zs → In (preceding z x zs) (z ∷ zs)
preceding_in z x {zs} m = before_in x z m

-- the same slots with the slot before x and the list under other names: `rw` does not reach them below `Linked`
moved : (next : List ℕ) (c s x : ℕ) {p q : ℕ} {xs ys : List ℕ} {y : ℕ} → q ≡ p → ys ≡ xs
    → Linked (set (set next q (get_or next x 0)) x NONE) c s (y ∷ ys) → Linked (set (set next p (get_or next x 0)) x NONE) c s (y ∷ xs)
moved next c s x {p} {q} {xs} {ys} {y} e f h =
    subst (λ (z : ℕ). Linked (set (set next z (get_or next x 0)) x NONE) c s (y ∷ xs)) e
    (subst (λ (w : List ℕ). Linked (set (set next q (get_or next x 0)) x NONE) c s (y ∷ w)) f h)

cut_past : (next : List ℕ) (c x s y : ℕ) (xs : List ℕ) → c ≤ length next → Once (y ∷ xs) → Linked next c s (y ∷ xs) → In x xs
    → Linked (set (set next (preceding y x xs) (get_or next x 0)) x NONE) c s (y ∷ cut x xs)
unfolding preceding cut
cut_past next c x s y xs hc o h (here {l = zs}) =
    let n : ℕ = get_or next x 0 in
    let p : preceding y x (x ∷ zs) ≡ y = rw (eq-eqb x x refl) in
    let k : cut x (x ∷ zs) ≡ zs = rw (eq-eqb x x refl) in
    let turned : Linked (set next y n) c n zs = linked_set next c n zs y n o.0.1 h.2.2 in
    let rest : Linked (set (set next y n) x NONE) c (get_or (set (set next y n) x NONE) y 0) zs =
    rw (get_or-set_other (set next y n) x y NONE 0 o.0.0, get_or-set_same next y n 0 (omega arith))
    (linked_set (set next y n) c n zs x NONE o.1.0 turned) in
    moved next c s x (sym p) (sym k) (h.0, h.1, rest)
cut_past next c x s y xs hc o h (there {b = z} {l = zs} m) =
    let n : ℕ = get_or next x 0 in
    let w : ℕ = preceding z x zs in
    let e : eqb z x ≡ false = ne_eqb z x (not_in o.1.0 m) in
    let p : preceding y x (z ∷ zs) ≡ w = rw e in
    let k : cut x (z ∷ zs) ≡ z ∷ cut x zs = rw e in
    let rest : Linked (set (set next w n) x NONE) c (get_or (set (set next w n) x NONE) y 0) (z ∷ cut x zs) =
    rw (get_or-set_other (set next w n) x y NONE 0 (not_in o.0 (there m)), get_or-set_other next w y n 0 (not_in o.0 (preceding_in z x m)))
    (cut_past next c x (get_or next y 0) z zs hc o.1 h.2 m) in
    moved next c s x (sym p) (sym k) (h.0, h.1, rest)

-- x is not the first: the slot before it is turned past it
cut_later : (next : List ℕ) (c s x y : ℕ) (xs : List ℕ) → c ≤ length next → Once (y ∷ xs) → Linked next c s (y ∷ xs) → In x xs
    → Linked (set (set next (preceding y x xs) (get_or next x 0)) x NONE) c s (y ∷ cut x xs)
cut_later next c s x y xs hc o h m = cut_past next c x s y xs hc o h m

-- a chain that x is taken out of: x was the first, or the slot before it is turned past it
data Own (next : List ℕ) (c s x : ℕ) (xs : List ℕ) : Type 0 where
  first : preceding NONE x xs ≡ NONE → Linked (set next x NONE) c (get_or next x 0) (cut x xs) → Own next c s x xs
  later : In (preceding NONE x xs) xs → Linked (set (set next (preceding NONE x xs) (get_or next x 0)) x NONE) c s (cut x xs) → Own next c s x xs

own : (next : List ℕ) (c s x : ℕ) (xs : List ℕ) → c ≤ length next → Once xs → Linked next c s xs → In x xs → Own next c s x xs
unfolding preceding cut
own next c s x xs hc o h (here {l = zs}) = first (rw (eq-eqb x x refl)) (rw (eq-eqb x x refl) (linked_set next c (get_or next x 0) zs x NONE o.0 h.2))
own next c s x xs hc o h (there {b = y} {l = zs} m) =
    let n : eqb y x ≡ false = ne_eqb y x (not_in o.0 m) in
    later (rw n (preceding_in y x m)) (rw n (cut_later next c s x y zs hc o h m))

module _ (c : ℕ) (ix : Index) (g : ℕ → Option ℕ) (r : Chains c ix g) (x b : ℕ) (hx : x < c) (hb : b < ix.buckets) (gx : g x ≡ some b) where
  abbrev shorter : ℕ → List ℕ
  shorter = put b (cut x (r.chain b)) r.chain

  -- a slot of b's chain is in no other
  apart : (d y : ℕ) → (d ≡ b → ⊥) → In y (r.chain b) → In y (r.chain d) → ⊥
  apart d y n m k = n (some_same (sym (r.member d y k) ∙ r.member b y m))

  off : (d y : ℕ) → (d ≡ b → ⊥) → In y (r.chain b) → NotIn y (r.chain d)
  off d y n m = not_in_list y (r.chain d) (apart d y n m)

  in_x : In x (r.chain b)
  in_x = r.complete b x hx gx

  -- b's chain has x, so the length kept for it is not 0, and one less is that of the chain without x
  kept_one : get_or ix.lengths b 0 ≡ suc (length (cut x (r.chain b)))
  kept_one = r.counted b hb ∙ sym (cut_shorter in_x)

  abbrev fewer : List ℕ
  fewer = set ix.lengths b (get_or ix.lengths b 0 - 1)

  fewer_counted : (d : ℕ) → d < ix.buckets → get_or fewer d 0 ≡ length (shorter d)
  fewer_counted d hd =
      elim (is (eqb d b)) [
        | yes! e ↦ rw (e, eqb-true d b e, get_or-set_same ix.lengths b (get_or ix.lengths b 0 - 1) 0 (omega (arith, r.size_lengths, r.few_buckets)))
            (omega (arith, kept_one))
        | no! e ↦ rw (e, get_or-set_other ix.lengths b d (get_or ix.lengths b 0 - 1) 0 (eqb-false d b e)) (r.counted d hd)
      ]

  -- from heads and next that are right for each chain, the rest follows
  build : (heads next : List ℕ) → length heads ≡ 512 → length next ≡ 256
      → ((d : ℕ) → d < ix.buckets → Linked next c (get_or heads d 0) (shorter d))
      → ((y : ℕ) → y < c → put x none g y ≡ none → get_or next y 0 ≡ NONE)
      → Chains c (record { heads = heads; lengths = fewer; buckets = ix.buckets; next = next; free = ix.free; free_len = ix.free_len }) (put x none g)
  build heads next sh sn lk lo =
      record {
        size_heads = sh;
        size_lengths = rw length-set r.size_lengths;
        size_next = sn;
        small = r.small;
        some_buckets = r.some_buckets;
        few_buckets = r.few_buckets;
        chain = shorter;
        linked = lk;
        once = λ d. elim (is (eqb d b)) [ yes! e ↦ rw e (once_cut x (r.chain b) (r.once b)) | no! e ↦ rw e (r.once d) ];
        short = λ d. elim (is (eqb d b)) [ yes! e ↦ rw e (omega (arith, cut_length x (r.chain b), r.short b)) | no! e ↦ rw e (r.short d) ];
        counted = fewer_counted;
        member = λ d y m. elim (is (eqb d b)) [
          | yes! e ↦ let k = cut_in x y (r.chain b) (r.once b) (rw e at m) in rw (ne_eqb y x k.1, eqb-true d b e) (r.member b y k.0)
          | no! e ↦ let k : In y (r.chain d) = rw e at m in rw (ne_eqb y x (λ q. apart d x (eqb-false d b e) in_x (rw q at k))) (r.member d y k)
        ];
        complete = λ d y hy q. elim (is (eqb y x)) [
          | yes! e ↦ absurd (none_some (rw e at q))
          | no! e ↦ let m = r.complete d y hy (rw e at q) in elim (is (eqb d b)) [ yes! z ↦ rw z (in_cut (rw (eqb-true d b z) at m) (eqb-false y x e)) | no! z ↦ rw z m ]
        ];
        loose = lo;
      }

  abbrev away : ℕ
  away = next_of ix x

  x<next : x < length ix.next
  x<next = omega (arith, r.size_next, r.small)

  b<heads : b < length ix.heads
  b<heads = omega (arith, r.size_heads, r.few_buckets)

  first_linked : Linked (set ix.next x NONE) c away (cut x (r.chain b)) → (d : ℕ) → d < ix.buckets → Linked (set ix.next x NONE) c (get_or (set ix.heads b away) d 0) (shorter d)
  first_linked h d hd =
      elim (is (eqb d b)) [
        | yes! e ↦ rw (e, eqb-true d b e, get_or-set_same ix.heads b away 0 b<heads) h
        | no! e ↦ rw (e, get_or-set_other ix.heads b d away 0 (eqb-false d b e)) (linked_set ix.next c (get_or ix.heads d 0) (r.chain d) x NONE (off d x (eqb-false d b e) in_x) (r.linked d hd))
      ]

  first_loose : (y : ℕ) → y < c → put x none g y ≡ none → get_or (set ix.next x NONE) y 0 ≡ NONE
  first_loose y hy q =
      elim (is (eqb y x)) [
        | yes! e ↦ rw (eqb-true y x e) (get_or-set_same ix.next x NONE 0 x<next)
        | no! e ↦ rw (get_or-set_other ix.next x y NONE 0 (eqb-false y x e)) (r.loose y hy (rw e at q))
      ]

  module _ (p : ℕ) (hp : In p (r.chain b)) where
    abbrev past : List ℕ
    past = set (set ix.next p away) x NONE

    later_linked : Linked past c (get_or ix.heads b 0) (cut x (r.chain b)) → (d : ℕ) → d < ix.buckets → Linked past c (get_or ix.heads d 0) (shorter d)
    later_linked h d hd =
        elim (is (eqb d b)) [
          | yes! e ↦ rw (e, eqb-true d b e) h
          | no! e ↦ rw e (linked_set (set ix.next p away) c (get_or ix.heads d 0) (r.chain d) x NONE (off d x (eqb-false d b e) in_x)
              (linked_set ix.next c (get_or ix.heads d 0) (r.chain d) p away (off d p (eqb-false d b e) hp) (r.linked d hd)))
        ]

    later_loose : (y : ℕ) → y < c → put x none g y ≡ none → get_or past y 0 ≡ NONE
    later_loose y hy q =
        elim (is (eqb y x)) [
          | yes! e ↦ rw (eqb-true y x e) (get_or-set_same (set ix.next p away) x NONE 0 (rw length-set x<next))
          | no! e ↦
              let gy : g y ≡ none = rw e at q in
              rw (get_or-set_other (set ix.next p away) x y NONE 0 (eqb-false y x e), get_or-set_other ix.next p y away 0 (λ z. none_some (sym gy ∙ ap g z ∙ r.member b p hp))) (r.loose y hy gy)
        ]

module _ (c : ℕ) (ix : Index) (g : ℕ → Option ℕ) (r : Chains c ix g) (key : CacheKey) (x : ℕ) (hx : x < c) (gx : g x ≡ some (bucket_of key ix.buckets)) where
  pub remove_index_lem : ix.free_len ≤ c → Removed c ix g r x (bucket_of key ix.buckets) (remove_index c ix key x)
  unfolding remove_index unlinked build
  remove_index_lem fits =
      let b : ℕ = bucket_of key ix.buckets in
      let hb : b < ix.buckets = bucket_low key ix.buckets r.some_buckets in
      let counts : 0 < length_of ix key = omega (arith, kept_one c ix g r x b hx hb gx) in
      let lengths : List ℕ = fewer c ix g r x b hx hb gx in
      rw (index_sized c ix g r fits, lt-ltb 0 (length_of ix key) counts, remove_walk CHAIN c ix b x NONE (head_of ix key) (r.chain b) (r.linked b hb) (r.complete b x hx gx) (omega (arith, r.short b)))
      (elim (own ix.next c (head_of ix key) x (r.chain b) (omega (arith, r.size_next, r.small)) (r.once b) (r.linked b hb) (r.complete b x hx gx)) [
        | first e h ↦ record {
          index = record { heads = set ix.heads b (next_of ix x); lengths = lengths; buckets = ix.buckets; next = set ix.next x NONE; free = ix.free; free_len = ix.free_len };
          gives = rw e;
          chains = build c ix g r x b hx hb gx (set ix.heads b (next_of ix x)) (set ix.next x NONE) (rw length-set r.size_heads) (rw length-set r.size_next) (first_linked c ix g r x b hx hb gx h) (first_loose c ix g r x b hx hb gx);
          cuts = refl;
          free = refl;
          free_len_lem = refl;
          buckets = refl;
        }
        | later m h ↦
            let p : ℕ = preceding NONE x (r.chain b) in
            record {
              index = record { heads = ix.heads; lengths = lengths; buckets = ix.buckets; next = set (set ix.next p (next_of ix x)) x NONE; free = ix.free; free_len = ix.free_len };
              gives = rw (ne_eqb p NONE (omega (arith, linked_low ix.next c (head_of ix key) (r.linked b hb) m, r.small)));
              chains = build c ix g r x b hx hb gx ix.heads (set (set ix.next p (next_of ix x)) x NONE) r.size_heads (rw (length-set, length-set) r.size_next) (later_linked c ix g r x b hx hb gx p m h) (later_loose c ix g r x b hx hb gx p m);
              cuts = refl;
              free = refl;
              free_len_lem = refl;
              buckets = refl;
            }
      ])
