-- SPDX-License-Identifier: Apache-2.0
-- A batch visits no more slots than single peeks of its keys. Assumes nothing.
use Rattle.std.proofs.Common.{if◌then◌else◌}
use Prim.Native.Nat.{ℕ, zero, suc, ◌+◌, ◌≤◌}
use native.Mathlib.Omega.{arith}
use mathlib.Core.Path.{◌≡◌, refl}
use mathlib.Core.Bool.{Bool, true, false, not, ◌&&◌}
use mathlib.Core.List.{List, [], ◌∷◌, map}
use lib.Dec.{leb, eqb}
use lib.ListN.{length, get_or, take}
use borrow.Author.Tests.{eqb-true, eqb-false, leb-true, leb-false, le-leb, lt-leb}
use Rattle.std.specs.List.{sum_by}
use Rattle.std.proofs.lemmas.List.Sums.{sum_by-cons}
use Rattle.basics.specs.Try.{Try, ok, refuse, ◌>>=◌, ◌>>◌, need}
use Rattle.basics.specs.Refusals.{STOP, KEYS}
use Rattle.basics.specs.Numbers.{NONE}
use Rattle.basics.specs.Lists.{keep}
use Rattle.basics.proofs.Tests.{yes!, no!, is, refuse_ok, met, went, ok_same}
use Rattle.key.specs.declared.CacheKey.{CacheKey}
use Rattle.key.specs.Bucket.{bucket_of}
use Rattle.index.specs.Chain.{CHAIN, next_of, walked}
use Rattle.state.specs.declared.State.{State}
use Rattle.state.specs.Slots.{slot_at, clean_with}
use Rattle.state.specs.Fresh.{sound}
use Rattle.batch.specs.Batch.{PEEK_BATCH, holds, unfound, visit_from, asked_of, visit_chain, total, visit_chains, slot_for, unless_refused, visits_of, peek_batch}
use Rattle.laws_batch.specs.Single.{single_from, single_peek, visits}
use Rattle.laws_batch.specs.Laws.{NeverMore}
use Rattle.laws_batch.proofs.Peeks.{not_clean}

-- ── sums ──
-- what is kept of a list and the whole list, added up, where no entry comes to more than h gives it
sum_within : {A : Type 0} (p : A → Bool) (f g h : A → ℕ) (l : List A) → ((a : A) → (if p a then f a else 0) + g a ≤ h a)
    → sum_by f (keep p l) + sum_by g l ≤ sum_by h l
unfolding keep
sum_within p f g h [] le = omega arith
sum_within p f g h (a ∷ l) le =
    elim (is (p a)) [
      | yes! e ↦ rw e (omega (arith, rw e at (le a), sum_within p f g h l le, sum_by-cons f a (keep p l), sum_by-cons g a l, sum_by-cons h a l))
      | no! e ↦ rw e (omega (arith, rw e at (le a), sum_within p f g h l le, sum_by-cons g a l, sum_by-cons h a l))
    ]

-- a one for each entry
sum_ones : {A : Type 0} (l : List A) → sum_by (λ (a : A). 1) l ≡ length l
sum_ones [] = refl
sum_ones (a ∷ l) = omega (arith, sum_by-cons (λ _. 1) a l, sum_ones l)

-- ── one chain ──
module _ (t : State) where
  -- the slots that a walk of so many steps, from `slot` on, visits for one key
  abbrev alone : ℕ → ℕ → CacheKey → ℕ
  alone left slot key = (single_from left t key slot).visited

  -- each key is compared with the slot, and one that it does not hold goes on
  one_slot : (left slot : ℕ) → eqb slot NONE ≡ false → leb t.capacity slot ≡ false → (key : CacheKey)
      → (if not (holds (slot_at t slot) key) then alone left (next_of t.index slot) key else 0) + 1 ≤ alone (suc left) slot key
  unfolding single_from
  one_slot left slot e l key =
      elim (is (holds (slot_at t slot) key)) [
        | yes! h ↦ elim (is (clean_with (slot_at t slot) key)) [ yes! c ↦ rw (h, alone, e, l, c) (omega arith) | no! c ↦ rw (h, alone, e, l, c) (omega arith) ]
        | no! h ↦ rw (h, alone, e, l, not_clean (slot_at t slot) key h) (omega arith)
      ]

  walk_fewer : (left kept : ℕ) (keys : List CacheKey) (slot n : ℕ) → visit_from left t kept keys slot ≡ ok n → n ≤ sum_by (alone left slot) keys
  unfolding visit_from
  walk_fewer zero kept keys slot n e =
      elim (is (eqb (length keys) 0)) [
        | yes! k ↦ let z : 0 ≡ n = ok_same (rw k at e) in omega arith
        | no! k ↦ elim (is (eqb slot NONE)) [
          | yes! q ↦ let z : 0 ≡ n = ok_same (met (walked kept 0) STOP (ok 0) n (rw (k, q) at e)).1 in omega arith
          | no! q ↦ absurd (refuse_ok (rw (k, q) at e))
        ]
      ]
  walk_fewer (suc left) kept keys slot n e =
      elim (is (eqb (length keys) 0)) [
        | yes! k ↦ let z : 0 ≡ n = ok_same (rw k at e) in omega arith
        | no! k ↦ elim (is (eqb slot NONE)) [
          | yes! q ↦ let z : 0 ≡ n = ok_same (met (walked kept (suc left)) STOP (ok 0) n (rw (k, q) at e)).1 in omega arith
          | no! q ↦ elim (is (leb t.capacity slot)) [
            | yes! l ↦ absurd (refuse_ok (rw (k, q, l) at e))
            | no! l ↦
                let others : List CacheKey = unfound (slot_at t slot) keys in
                let w = went (visit_from left t kept others (next_of t.index slot)) (λ m. ok (suc m)) n (rw (k, q, l) at e) in
                let z : suc w.0 ≡ n = ok_same {a = suc w.0} w.2 in
                omega (
                  arith,
                  walk_fewer left kept others (next_of t.index slot) w.0 w.1,
                  sum_within (λ key. not (holds (slot_at t slot) key)) (alone left (next_of t.index slot)) (λ _. 1) (alone (suc left) slot) keys
                      (one_slot left slot q l),
                  sum_ones keys,
                  eqb-false (length keys) 0 k,
                )
          ]
        ]
      ]

  -- ── all chains ──
  abbrev bucket : CacheKey → ℕ
  bucket key = bucket_of key t.index.buckets

  -- the visits for a key of bucket n or of a later one
  abbrev later : ℕ → CacheKey → ℕ
  later n key = if leb n (bucket key) then visits t key else 0

  later_least : (n : ℕ) (key : CacheKey) → 0 + later n key ≤ visits t key
  later_least n key = elim (is (leb n (bucket key))) [ yes! l ↦ rw l (omega arith) | no! l ↦ rw l (omega arith) ]

  one_bucket : sound t ≡ true → (n : ℕ) (key : CacheKey)
      → (if eqb (bucket key) n then alone CHAIN (get_or t.index.heads n 0) key else 0) + later (suc n) key ≤ later n key
  unfolding single_peek
  one_bucket s n key =
      elim (is (eqb (bucket key) n)) [
        | yes! e ↦ rw (e, eqb-true (bucket key) n e, lt-leb (suc n) n (omega arith), le-leb n n (omega arith), visits, s) (omega arith)
        | no! e ↦
            let n_e = eqb-false (bucket key) n e in
            elim (is (leb n (bucket key))) [
              | yes! l ↦ let low = leb-true n (bucket key) l in rw (e, l, le-leb (suc n) (bucket key) (omega arith)) (omega arith)
              | no! l ↦ let low = leb-false n (bucket key) l in rw (e, l, lt-leb (suc n) (bucket key) (omega arith)) (omega arith)
            ]
      ]

  chains_fewer : sound t ≡ true → (keys : List CacheKey) (n a : ℕ) → total (visit_chain t keys) n ≡ ok a → a + sum_by (later n) keys ≤ sum_by (visits t) keys
  unfolding total visit_chain
  chains_fewer s keys zero a e = let z : 0 ≡ a = ok_same e in omega (arith, sum_within (λ _. false) (λ _. 0) (later 0) (visits t) keys (later_least 0))
  chains_fewer s keys (suc n) a e =
      let w = went (total (visit_chain t keys) n) (λ x. visit_chain t keys n >>= (λ y. ok (x + y))) a e in
      let v = went (visit_chain t keys n) (λ y. ok (w.0 + y)) a w.2 in
      let z : w.0 + v.0 ≡ a = ok_same v.2 in
      omega (
        arith,
        chains_fewer s keys n w.0 w.1,
        walk_fewer CHAIN (get_or t.index.lengths n 0) (asked_of t n keys) (get_or t.index.heads n 0) v.0 v.1,
        sum_within (λ key. eqb (bucket key) n) (alone CHAIN (get_or t.index.heads n 0)) (later (suc n)) (later n) keys (one_bucket s n),
      )

-- a refusal counts no visit
visited_least : (list slots : List ℕ) (r : Try ℕ) (m : ℕ) → ((n : ℕ) → r ≡ ok n → n ≤ m) → (unless_refused list slots r).visited ≤ m
visited_least list slots (ok n) m le = le n refl
visited_least list slots (refuse n) m le = omega arith

pub never_more : NeverMore
unfolding peek_batch visits_of
never_more t keys count list =
    let asked : List CacheKey = take count keys in
    let fits : Bool = leb count PEEK_BATCH && eqb (length list) count in
    visited_least list (map (slot_for t) asked) (need (sound t) STOP >> (need fits KEYS >> visit_chains t asked)) _ (λ n e.
    let a = met (sound t) STOP (need fits KEYS >> visit_chains t asked) n e in
    let b = met fits KEYS (visit_chains t asked) n a.1 in
    omega (arith, chains_fewer t a.0 asked t.index.buckets n b.1))
