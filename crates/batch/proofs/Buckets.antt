-- SPDX-License-Identifier: Apache-2.0
-- The walks over the buckets of the first keys: none, one more, all; and what stands then at each place. Assumes nothing.
use Rattle.std.proofs.Common.{if◌then◌else◌}
use Rattle.std.proofs.lemmas.List.{length-take-le, get_or-take}
use Rattle.std.proofs.lemmas.List.Folds.{list_any_more, list_any_at}
use Rattle.std.proofs.Math.Bool.{and-false, or-true, or-false}
use Prim.Native.Nat.{ℕ, zero, suc, ◌+◌, ◌≤◌, ◌<◌}
use native.Mathlib.Omega.{arith}
use mathlib.Core.Path.{◌≡◌, refl, sym, ◌∙◌}
use mathlib.Core.Bool.{Bool, true, false, ◌&&◌, ◌||◌, false≢true}
use mathlib.Core.List.{List, [], ◌∷◌}
use lib.Dec.{ltb, eqb}
use lib.ListN.{length, get_or, take}
use borrow.Author.Tests.{eqb-true, eqb-false, eq-eqb, ne_eqb, lt-ltb, ltb-true}
use Rattle.basics.specs.Try.{ok, refuse}
use Rattle.basics.specs.Refusals.{STOP}
use Rattle.basics.specs.Numbers.{NONE}
use Rattle.basics.specs.Lists.{keep}
use Rattle.basics.proofs.Tests.{yes!, no!, is}
use Rattle.key.specs.declared.CacheKey.{CacheKey}
use Rattle.key.specs.Bucket.{bucket_of}
use Rattle.key.proofs.Buckets.{bucket_low}
use Rattle.index.specs.Chain.{CHAIN, head_of, length_of}
use Rattle.state.specs.declared.State.{State}
use Rattle.batch.specs.Batch.{asked_of, visit_from, visit_chain, total, slot_from, slot_for}
use Rattle.batch.specs.Parts.{marked, asked_at, mark_at, walked_to, walks_to, filled_to}
use Rattle.batch.proofs.Marks.{marked_kept}
use Rattle.batch.proofs.Visits.{visit_found}
use Rattle.batch.proofs.Totals.{total_none, total_same, total_more, total_stops, visit_only, chain_only}

-- no key passes
keep_none : (test : CacheKey → Bool) (count : ℕ) (keys : List CacheKey) → count ≤ length keys → ((p : ℕ) → p < count → test (asked_at keys p) ≡ false)
    → keep test (take count keys) ≡ []
unfolding keep
keep_none test zero keys h none = refl
keep_none test (suc count) [] h none = absurd (omega arith)
keep_none test (suc count) (key ∷ keys) h none =
    let here : test key ≡ false = none 0 (omega arith) in
    rw here (keep_none test count keys (omega arith) (λ p l. none (suc p) (omega arith)))

module _ (t : State) (keys : List CacheKey) (buckets : List ℕ) (count : ℕ) (all_keys : length keys ≡ 64) (all_buckets : length buckets ≡ 64) (few : count ≤ 64)
    (own : (p : ℕ) → p < count → get_or buckets p 0 ≡ bucket_of (asked_at keys p) t.index.buckets) where
  abbrev asked : List CacheKey
  asked = take count keys

  abbrev at : ℕ → ℕ
  at p = get_or buckets p 0

  -- ── none ──
  pub visits_none : total (walks_to t asked buckets 0) t.index.buckets ≡ ok 0
  visits_none = total_none t.index.buckets

  pub filled_none : (p number : ℕ) → number ≡ NONE → number ≡ filled_to t keys buckets count 0 p
  filled_none p number e = rw (and-false (ltb p count)) e

  -- ── one place more ──
  walked_more : (place b : ℕ) → place < 64 → walked_to buckets (place + 1) b ≡ (walked_to buckets place b || eqb (at place) b)
  walked_more place b l = list_any_more (λ x. eqb x b) buckets place 0 (omega arith)

  module _ (place : ℕ) (low : place < count) where
    -- its bucket was walked before
    walked_same : walked_to buckets place (at place) ≡ true → (b : ℕ) → walked_to buckets (place + 1) b ≡ walked_to buckets place b
    walked_same w b =
        walked_more place b (omega arith)
        ∙ elim (is (eqb (at place) b)) [
          | yes! e ↦ let q : at place ≡ b = eqb-true (at place) b e in let h : walked_to buckets place b ≡ true = rw q at w in rw (e, h)
          | no! e ↦ rw e (or-false (walked_to buckets place b))
        ]

    pub visits_same : (n : ℕ) → walked_to buckets place (at place) ≡ true → total (walks_to t asked buckets place) t.index.buckets ≡ ok n
        → total (walks_to t asked buckets (place + 1)) t.index.buckets ≡ ok n
    visits_same n w e =
        total_same (walks_to t asked buckets (place + 1)) (walks_to t asked buckets place) t.index.buckets (λ b l. rw (walked_same w b)) ∙ e

    pub filled_same : (p : ℕ) → walked_to buckets place (at place) ≡ true → filled_to t keys buckets count place p ≡ filled_to t keys buckets count (place + 1) p
    filled_same p w = rw (walked_same w (at p))

    -- it was not: the walk for the keys at the places marked
    module _ (marks : List Bool) (all_marks : length marks ≡ 64) (told : (p : ℕ) → p < 64 → mark_at marks p ≡ (ltb p count && eqb (at p) (at place)))
        (fresh : walked_to buckets place (at place) ≡ false) where
      abbrev key : CacheKey
      key = asked_at keys place

      -- those keys are the ones asked of its bucket
      marked_asked : marked marks keys ≡ asked_of t (at place) asked
      marked_asked =
          marked_kept (λ k. eqb (bucket_of k t.index.buckets) (at place)) count marks keys (omega arith) (λ p l.
          told p (omega arith) ∙ elim (is (ltb p count)) [ no! n ↦ rw n | yes! y ↦ rw (y, own p (ltb-true p count y)) ])

      pub its_walk : visit_from CHAIN t (length_of t.index key) (marked marks keys) (head_of t.index key) ≡ visit_chain t asked (at place)
      unfolding visit_chain
      its_walk = rw (marked_asked, own place low)

      at_low : 0 < t.index.buckets → at place < t.index.buckets
      at_low pos = rw (own place low) (bucket_low key t.index.buckets pos)

      -- its bucket is walked now, and no other is besides
      walked_here : walked_to buckets (place + 1) (at place) ≡ true
      walked_here = walked_more place (at place) (omega arith) ∙ rw (eq-eqb (at place) (at place) refl) (or-true (walked_to buckets place (at place)))

      walked_other : (b : ℕ) → (b ≡ at place → ⊥) → walked_to buckets (place + 1) b ≡ walked_to buckets place b
      walked_other b d = walked_more place b (omega arith) ∙ rw (ne_eqb (at place) b (λ e. d (sym e))) (or-false (walked_to buckets place b))

      pub visits_more : (n m : ℕ) → 0 < t.index.buckets
          → visit_from CHAIN t (length_of t.index key) (marked marks keys) (head_of t.index key) ≡ ok m
          → total (walks_to t asked buckets place) t.index.buckets ≡ ok n
          → total (walks_to t asked buckets (place + 1)) t.index.buckets ≡ ok (n + m)
      visits_more n m pos w e =
          total_more (walks_to t asked buckets place) (walks_to t asked buckets (place + 1)) t.index.buckets (at place) m n (at_low pos) (rw fresh)
          (rw (walked_here) (sym its_walk ∙ w)) (λ j d. rw (walked_other j d)) e

      pub filled_more : (p before : ℕ) → p < 64 → before ≡ filled_to t keys buckets count place p
          → (if mark_at marks p then slot_from CHAIN t (asked_at keys p) (head_of t.index key) else before) ≡ filled_to t keys buckets count (place + 1) p
      unfolding slot_for
      filled_more p before l e =
          elim (is (ltb p count)) [
            | no! n ↦ rw (told p l, n) (e ∙ rw n)
            | yes! y ↦ elim (is (eqb (at p) (at place))) [
              | yes! q ↦
                  let same : at p ≡ at place = eqb-true (at p) (at place) q in
                  let head : head_of t.index key ≡ head_of t.index (asked_at keys p) = rw (← own place low, ← own p (ltb-true p count y), same) in
                  let here : walked_to buckets (place + 1) (at p) ≡ true = rw same walked_here in
                  rw (told p l, y, q, here, head)
              | no! q ↦
                  let other : walked_to buckets (place + 1) (at p) ≡ walked_to buckets place (at p) = walked_other (at p) (eqb-false (at p) (at place) q) in
                  rw (told p l, y, q, other) (e ∙ rw y)
            ]
          ]

      pub visits_refused : (why : ℕ) → 0 < t.index.buckets
          → visit_from CHAIN t (length_of t.index key) (marked marks keys) (head_of t.index key) ≡ refuse why
          → total (visit_chain t asked) t.index.buckets ≡ refuse why
      visits_refused why pos w =
          let ten : why ≡ STOP = visit_only CHAIN t (length_of t.index key) (marked marks keys) (head_of t.index key) why w in
          rw ten (total_stops (visit_chain t asked) (chain_only t asked) t.index.buckets (at place) (at_low pos) (sym its_walk ∙ rw ten at w))

  -- ── all ──
  walked_all : (p : ℕ) → p < count → walked_to buckets count (at p) ≡ true
  walked_all p l =
      list_any_at (λ b. eqb b (at p)) (take count buckets) p 0 (omega (arith, length-take-le count buckets (omega arith)))
      (rw (get_or-take count buckets p 0 l) (eq-eqb (at p) (at p) refl))

  -- a chain that no key is asked of is not looked at
  unasked : (b : ℕ) → walked_to buckets count b ≡ false → visit_chain t asked b ≡ ok 0
  unfolding visit_chain
  unasked b w =
      let none : asked_of t b asked ≡ [] =
      keep_none (λ key. eqb (bucket_of key t.index.buckets) b) count keys (omega arith) (λ p l.
      ne_eqb (bucket_of (asked_at keys p) t.index.buckets) b (λ e. false≢true (sym w ∙ rw (sym e ∙ sym (own p l)) (walked_all p l)))) in
      rw none (visit_found t (get_or t.index.lengths b 0) [] CHAIN (get_or t.index.heads b 0) refl)

  pub visits_all : (n : ℕ) → total (walks_to t asked buckets count) t.index.buckets ≡ ok n → total (visit_chain t asked) t.index.buckets ≡ ok n
  visits_all n e =
      total_same (visit_chain t asked) (walks_to t asked buckets count) t.index.buckets (λ b l.
      elim (is (walked_to buckets count b)) [ yes! w ↦ rw w | no! w ↦ rw w (unasked b w) ])
      ∙ e

  pub filled_all : (p : ℕ) → p < count → filled_to t keys buckets count count p ≡ slot_for t (asked_at keys p)
  filled_all p l = rw (lt-ltb p count l, walked_all p l)
