-- SPDX-License-Identifier: Apache-2.0
-- The walk whose visits are counted for a single peek is `peek_clean`'s; which slots they are; and a batch of one key that does not load visits as many.
-- Assumes nothing.
use Prim.Native.Nat.{ℕ, zero, suc, ◌+◌, ◌<◌, ◌≤◌}
use native.Mathlib.Omega.{arith}
use mathlib.Core.Path.{◌≡◌, refl, sym, ap, ◌∙◌}
use mathlib.Core.Bool.{true, false}
use mathlib.Core.List.{[], ◌∷◌}
use mathlib.Core.Logic.{inl, inr}
use lib.Dec.{leb, eqb}
use lib.ListN.{length, get_or}
use borrow.Author.Tests.{eqb-true, eq-eqb, ne_eqb, leb-true, leb-false}
use Rattle.basics.specs.Try.{ok}
use Rattle.basics.specs.Refusals.{STOP}
use Rattle.basics.specs.Numbers.{NONE}
use Rattle.basics.specs.Lists.{keep}
use Rattle.basics.proofs.Tests.{yes!, no!, is, and_right, refuse_ok, met, went, ok_same, some_same, none_some}
use Rattle.key.specs.declared.CacheKey.{CacheKey}
use Rattle.key.specs.Bucket.{bucket_of}
use Rattle.index.specs.Chain.{CHAIN, head_of, next_of, length_of, walked}
use Rattle.state.specs.declared.Slot.{Slot}
use Rattle.state.specs.declared.State.{State}
use Rattle.state.specs.Slots.{slot_at, is_clean, clean_with}
use Rattle.state.specs.Fresh.{sound}
use Rattle.state.proofs.Cases.{sound_sizes_lem}
use Rattle.key.proofs.Buckets.{bucket_low}
use Rattle.key.specs.Key.{same_key}
use Rattle.state.specs.Slots.{occupied}
use Rattle.state.specs.Find.{ended}
use Rattle.state.specs.Reads.{peek_from, peek_clean}
use Rattle.batch.specs.Batch.{holds, visit_from, visit_chain, total, visits_of, peek_batch}
use Rattle.batch.proofs.Visits.{visit_found}
use Rattle.batch.proofs.Totals.{gave, stopped, ran, total_none, total_more, total_stops, chain_only}
use Rattle.laws_table.proofs.SlotKinds.{clean_occupied}
use Rattle.laws_batch.specs.Single.{single, single_from, single_peek, visits, onward}
use Rattle.laws_batch.specs.Laws.{SingleIsPeekClean, WalkOf, SingleVisits, AloneVisits}

-- ── a single peek ──
same_walk : (left : ℕ) (t : State) (key : CacheKey) (slot : ℕ) → (single_from left t key slot).answer ≡ peek_from left t key slot
unfolding single_from peek_from
same_walk zero t key slot = refl
same_walk (suc left) t key slot =
    elim (is (eqb slot NONE)) [
      | yes! e ↦ rw e
      | no! e ↦ elim (is (leb t.capacity slot)) [
        | yes! l ↦ rw (e, l)
        | no! l ↦ elim (is (clean_with (slot_at t slot) key)) [ yes! c ↦ rw (e, l, c) | no! c ↦ rw (e, l, c) (same_walk left t key (next_of t.index slot)) ]
      ]
    ]

pub single_is_peek_clean : SingleIsPeekClean
unfolding single_peek peek_clean
single_is_peek_clean t key = elim (is (sound t)) [ yes! e ↦ rw e (same_walk CHAIN t key _) | no! e ↦ rw e ]

-- a slot that does not hold the key is not clean with it
pub not_clean : (s : Slot) (key : CacheKey) → holds s key ≡ false → clean_with s key ≡ false
unfolding holds clean_with
not_clean s key e = elim (is (is_clean s)) [ yes! c ↦ rw c (rw (clean_occupied s c) at e) | no! c ↦ rw c ]

-- ── a batch of one key ──
-- a slot that holds the key, if it is clean, is clean with it
holder_clean : (s : Slot) (key : CacheKey) → holds s key ≡ true → is_clean s ≡ true → clean_with s key ≡ true
unfolding holds clean_with
holder_clean s key h c = rw c (and_right (occupied s) (same_key s.key key) h)

-- a batch of one key that does not load anywhere visits what a single peek of it visits
module _ (t : State) (key : CacheKey) (ready : (s : ℕ) → s < t.capacity → holds (slot_at t s) key ≡ true → is_clean (slot_at t s) ≡ true) where
  one_from : (left slot n : ℕ) → visit_from left t (length_of t.index key) (key ∷ []) slot ≡ ok n → (single_from left t key slot).visited ≡ n
  unfolding visit_from single_from keep
  one_from zero slot n e =
      elim (is (eqb slot NONE)) [
        | yes! q ↦ ok_same (met (walked (length_of t.index key) 0) STOP (ok 0) n (rw q at e)).1
        | no! q ↦ absurd (refuse_ok (rw q at e))
      ]
  one_from (suc left) slot n e =
      elim (is (eqb slot NONE)) [
        | yes! q ↦ rw q (ok_same (met (walked (length_of t.index key) (suc left)) STOP (ok 0) n (rw q at e)).1)
        | no! q ↦ elim (is (leb t.capacity slot)) [
          | yes! l ↦ absurd (refuse_ok (rw (q, l) at e))
          | no! l ↦ elim (is (holds (slot_at t slot) key)) [
            | yes! h ↦
                let c = holder_clean (slot_at t slot) key h (ready slot (omega (arith, leb-false t.capacity slot l)) h) in
                let w = went (visit_from left t (length_of t.index key) [] (next_of t.index slot)) (λ m. ok (suc m)) n (rw (q, l, h) at e) in
                let o : 0 ≡ w.0 = ok_same (sym (visit_found t (length_of t.index key) [] left (next_of t.index slot) refl) ∙ w.1) in
                let z : suc w.0 ≡ n = ok_same {a = suc w.0} w.2 in
                rw (q, l, c) (omega arith)
            | no! h ↦
                let w = went (visit_from left t (length_of t.index key) (key ∷ []) (next_of t.index slot)) (λ m. ok (suc m)) n (rw (q, l, h) at e) in
                let z : suc w.0 ≡ n = ok_same {a = suc w.0} w.2 in
                rw (q, l, not_clean (slot_at t slot) key h) (omega (arith, one_from left (next_of t.index slot) w.0 w.1))
          ]
        ]
      ]

-- no other chain is asked
unasked : (t : State) (key : CacheKey) (b : ℕ) → (b ≡ bucket_of key t.index.buckets → ⊥) → ok 0 ≡ visit_chain t (key ∷ []) b
unfolding visit_chain keep
unasked t key b d =
    rw (ne_eqb (bucket_of key t.index.buckets) b (λ e. d (sym e)))
    (sym (visit_found t (get_or t.index.lengths b 0) [] CHAIN (get_or t.index.heads b 0) refl))

asked : (t : State) (key : CacheKey) → visit_chain t (key ∷ []) (bucket_of key t.index.buckets) ≡ visit_from CHAIN t (length_of t.index key) (key ∷ []) (head_of t.index key)
unfolding visit_chain keep
asked t key = rw (eq-eqb (bucket_of key t.index.buckets) (bucket_of key t.index.buckets) refl)

alone_total : (t : State) (key : CacheKey) (v : ℕ) → sound t ≡ true → total (visit_chain t (key ∷ [])) t.index.buckets ≡ ok v
    → visit_from CHAIN t (length_of t.index key) (key ∷ []) (head_of t.index key) ≡ ok v
alone_total t key v s e =
    let b : ℕ = bucket_of key t.index.buckets in
    let low : b < t.index.buckets = bucket_low key t.index.buckets (sound_sizes_lem s).some_bucket in
    elim (ran (visit_chain t (key ∷ []) b)) [
      | gave m q ↦
          let more = total_more (λ j. ok 0) (visit_chain t (key ∷ [])) t.index.buckets b m 0 low refl q (unasked t key) (total_none t.index.buckets) in
          let same : v ≡ 0 + m = ok_same (sym e ∙ more) in
          let whole : v ≡ m = omega arith in
          rw whole (sym (asked t key) ∙ q)
      | stopped r q ↦
          let ten : r ≡ STOP = chain_only t (key ∷ []) b r q in
          absurd (refuse_ok (sym (total_stops (visit_chain t (key ∷ [])) (chain_only t (key ∷ [])) t.index.buckets b low (rw ten at q)) ∙ e))
    ]

visits_sound : (t : State) (key : CacheKey) → sound t ≡ true → visits t key ≡ (single_from CHAIN t key (head_of t.index key)).visited
unfolding single_peek
visits_sound t key s = rw (visits, s)

pub alone_visits : AloneVisits
unfolding peek_batch visits_of
alone_visits t key ready keys list e =
    elim (is (sound t)) [
      | no! s ↦ absurd (refuse_ok (rw s at e))
      | yes! s ↦ elim (is (eqb (length list) 1)) [
        | no! l ↦ absurd (refuse_ok (rw (s, l) at e))
        | yes! l ↦ elim (ran (total (visit_chain t (key ∷ [])) t.index.buckets)) [
          | stopped r q ↦ absurd (refuse_ok (rw (s, l, q) at e))
          | gave v q ↦ rw (s, l, q) (sym (one_from t key ready CHAIN (head_of t.index key) v (alone_total t key v s q)) ∙ sym (visits_sound t key s))
        ]
      ]
    ]

-- ── the slots of a single peek's walk ──
module _ (t : State) (small : t.capacity ≤ 256) where
  -- at the end of the chain
  at_end : (kept left slot most : ℕ) → slot ≡ NONE → WalkOf t slot most (single (ended kept left) 0)
  unfolding onward
  at_end kept left slot most q =
      record {
        found = λ x e. elim (is (walked kept left)) [ yes! w ↦ absurd (none_some (ok_same (rw w at e))) | no! w ↦ absurd (refuse_ok (rw w at e)) ];
        ended = λ n. inr (omega arith);
      }

  walk_from : (left : ℕ) (key : CacheKey) (slot : ℕ) → WalkOf t slot left (single_from left t key slot)
  unfolding single_from onward
  walk_from zero key slot =
      elim (is (eqb slot NONE)) [
        | yes! q ↦ rw q (at_end (length_of t.index key) zero slot zero (eqb-true slot NONE q))
        | no! q ↦ rw q (record { found = λ x e. absurd (refuse_ok e); ended = λ n. inl refl })
      ]
  walk_from (suc left) key slot =
      elim (is (eqb slot NONE)) [
        | yes! q ↦ rw q (at_end (length_of t.index key) (suc left) slot (suc left) (eqb-true slot NONE q))
        | no! q ↦ elim (is (leb t.capacity slot)) [
          | yes! l ↦ rw (q, l) (record { found = λ x e. absurd (refuse_ok e); ended = λ n. inr (leb-true t.capacity slot l) })
          | no! l ↦ elim (is (clean_with (slot_at t slot) key)) [
            | yes! c ↦ rw (q, l, c) (record { found = λ x e. (0, refl, some_same (ok_same e)); ended = λ n. absurd (n slot refl) })
            | no! c ↦
                let r = walk_from left key (next_of t.index slot) in
                rw (q, l, c) (record {
                  found = λ x e. let w = r.found x e in (suc w.0, ap suc w.1, w.2);
                  ended = λ n. elim (r.ended n) [ inl e ↦ inl (ap suc e) | inr h ↦ inr h ];
                })
          ]
        ]
      ]

pub single_visits : SingleVisits
unfolding single_peek
single_visits t key s = rw s (walk_from t (sound_sizes_lem s).small CHAIN key (head_of t.index key))
