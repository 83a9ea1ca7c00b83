-- SPDX-License-Identifier: Apache-2.0
-- On a valid table a batch is not refused, and its list has what `peek_clean` answers of each key. Assumes nothing.
use Rattle.std.proofs.Common.{if◌then◌else◌}
use Prim.Native.Nat.{ℕ, zero, suc, ◌+◌, ◌<◌, ◌≤◌}
use native.Mathlib.Omega.{arith}
use mathlib.Core.Path.{◌≡◌, refl, sym, ap, ◌∙◌}
use mathlib.Core.Bool.{true, false≢true}
use mathlib.Core.List.{List, [], ◌∷◌, map}
use mathlib.Core.Option.{Option, none, some}
use lib.Dec.{eqb}
use lib.ListN.{length, get_or, take}
use borrow.Author.Tests.{eq-eqb, le-leb}
use Rattle.basics.specs.Try.{Try, ok}
use Rattle.basics.specs.Numbers.{NONE}
use Rattle.basics.specs.Lists.{first}
use Rattle.basics.specs.Answers.{done}
use Rattle.basics.proofs.Tests.{yes!, no!, is, and_left, and_right}
use Rattle.basics.proofs.Keeps.{hits, fails, look}
use Rattle.key.specs.declared.CacheKey.{CacheKey}
use Rattle.key.specs.Key.{same_key}
use Rattle.key.specs.Bucket.{bucket_of}
use Rattle.key.proofs.Keys.{same_key_lem, key_eq}
use Rattle.key.proofs.Buckets.{bucket_low}
use Rattle.index.specs.Chain.{CHAIN, head_of, next_of, walked}
use Rattle.state.specs.declared.Slot.{Slot}
use Rattle.state.specs.declared.State.{State}
use Rattle.state.specs.Slots.{slot_at, is_clean, occupied}
use Rattle.batch.specs.Batch.{PEEK_BATCH, holds, unfound, visit_from, asked_of, visit_chain, total, slot_from, slot_for, Peeking, visits_of, peek_batch}
use Rattle.batch.proofs.Visits.{visit_found, visit_end, visit_on, slot_ends, slot_goes}
use Rattle.laws_table.specs.Chains.{Linked}
use Rattle.laws_table.specs.Table.{Inv, Distinct}
use Rattle.laws_table.proofs.ChainWalks.{walk_linked}
use Rattle.laws_table.proofs.SlotKinds.{clean_occupied}
use Rattle.laws_table.proofs.TableParts.{sound_inv}
use Rattle.laws_table.proofs.KeySearch.{in_chain, chain_in}
use Rattle.laws_table.proofs.TableReads.{peeks!, lacks!, peek_law}
use Rattle.laws_batch.specs.Laws.{PeekIs, OnValid}

-- ── the slot of a key ──
-- a slot that holds the key
holds_lem : (s : Slot) (key : CacheKey) → holds s key ≡ true → (occupied s ≡ true) × (s.key ≡ key)
unfolding holds
holds_lem s key e = (and_left (occupied s) (same_key s.key key) e, key_eq s.key key (and_right (occupied s) (same_key s.key key) e))

clean_holds : (s : Slot) (key : CacheKey) → is_clean s ≡ true → s.key ≡ key → holds s key ≡ true
unfolding holds
clean_holds s key e q = rw (clean_occupied s e, q) (same_key_lem key)

-- the slot if it is clean
abbrev clean_one : State → Option ℕ → ℕ
clean_one t none = NONE
clean_one t (some slot) = if is_clean (slot_at t slot) then slot else NONE

module _ (t : State) (v : Inv t) where
  module _ (key : CacheKey) where
    abbrev holder : List ℕ → Option ℕ
    holder xs = first (λ x. holds (slot_at t x) key) xs

    goes : (n x : ℕ) (xs : List ℕ) → x < t.capacity → slot_from n t key (next_of t.index x) ≡ clean_one t (holder xs)
        → slot_from (suc n) t key x ≡ clean_one t (holder (x ∷ xs))
    unfolding first
    goes n x xs hx e = slot_goes n t key x hx ∙ elim (is (holds (slot_at t x) key)) [ yes! h ↦ rw h | no! h ↦ rw h e ]

    abbrev b : ℕ
    b = bucket_of key t.index.buckets

    hb : b < t.index.buckets
    hb = bucket_low key t.index.buckets v.chains.some_buckets

    slot_list : slot_for t key ≡ clean_one t (holder (v.chains.chain b))
    unfolding slot_for first
    slot_list =
        walk_linked (λ n s. slot_from n t key s) (λ n xs. clean_one t (holder xs)) (λ x. Unit {0}) t.index.next t.capacity
        (λ n. slot_ends n t key v.small) (λ n x xs hx _ e. goes n x xs hx e) CHAIN (head_of t.index key) (v.chains.chain b) (v.chains.linked b hb) (λ x m. tt) (v.chains.short b)

    -- the clean slot of the key is the only slot that holds it
    slot_clean : Distinct t.slots t.capacity → (x : ℕ) → x < t.capacity → is_clean (slot_at t x) ≡ true → (slot_at t x).key ≡ key → slot_for t key ≡ x
    slot_clean d x hx cx ek =
        slot_list ∙ elim (look (λ y. holds (slot_at t y) key) (v.chains.chain b)) [
          | fails f h ↦ absurd (false≢true (sym (h x (rw ek at (chain_in t v x hx (clean_occupied (slot_at t x) cx)))) ∙ clean_holds (slot_at t x) key cx ek))
          | hits y m q f ↦
              let (oy, ey) = holds_lem (slot_at t y) key q in
              let same : y ≡ x = d y x (in_chain t v b hb y m).0 hx oy (clean_occupied (slot_at t x) cx) (ey ∙ sym ek) in
              rw (f, same, cx)
        ]

    -- a slot that holds a key with no clean one is loading
    slot_none : ((x : ℕ) → x < t.capacity → is_clean (slot_at t x) ≡ true → (slot_at t x).key ≡ key → ⊥) → slot_for t key ≡ NONE
    slot_none n =
        slot_list ∙ elim (look (λ y. holds (slot_at t y) key) (v.chains.chain b)) [
          | fails f h ↦ rw f
          | hits y m q f ↦ elim (is (is_clean (slot_at t y))) [
            | yes! c ↦ absurd (n y (in_chain t v b hb y m).0 c (holds_lem (slot_at t y) key q).1)
            | no! c ↦ rw (f, c)
          ]
        ]

    peek_is : Distinct t.slots t.capacity → PeekIs t key (slot_for t key)
    peek_is d = elim (peek_law t v key) [ peeks! x hx cx ek r ↦ (some x, r, sym (slot_clean d x hx cx ek)) | lacks! n r ↦ (none, r, sym (slot_none n)) ]

  -- ── the visits ──
  visit_ends : (left kept : ℕ) (keys : List CacheKey) → kept + left ≡ CHAIN → visit_from left t kept keys NONE ≡ ok 0
  unfolding walked
  visit_ends left kept keys e =
      elim (is (eqb (length keys) 0)) [
        | yes! k ↦ visit_found t kept keys left NONE k
        | no! k ↦ visit_end t kept keys left k ∙ rw (eq-eqb (kept + left) CHAIN e)
      ]

  -- along a list whose end the kept length tells
  visit_list : (left kept : ℕ) (keys : List CacheKey) (s : ℕ) (xs : List ℕ) → Linked t.index.next t.capacity s xs
      → kept ≤ CHAIN → kept + left ≡ CHAIN + length xs → (n : ℕ) × (visit_from left t kept keys s ≡ ok n)
  visit_list left kept keys s [] h k e = (0, rw h (visit_ends left kept keys (omega arith)))
  visit_list zero kept keys s (x ∷ xs) h k e = absurd (omega arith)
  visit_list (suc left) kept keys s (x ∷ xs) h k e =
      elim (is (eqb (length keys) 0)) [
        | yes! z ↦ (0, visit_found t kept keys (suc left) s z)
        | no! z ↦
            let r = visit_list left kept (unfound (slot_at t x) keys) (next_of t.index x) xs h.2 k (omega arith) in
            (1 + r.0, rw h.0 (visit_on t kept keys left x z (λ q. absurd (omega (arith, h.1, v.small))) h.1 ∙ rw r.1))
      ]

  visit_one : (keys : List CacheKey) (b : ℕ) → b < t.index.buckets → (n : ℕ) × (visit_chain t keys b ≡ ok n)
  unfolding visit_chain
  visit_one keys b hb =
      let kept = v.chains.counted b hb in
      visit_list CHAIN (get_or t.index.lengths b 0) (asked_of t b keys) (get_or t.index.heads b 0) (v.chains.chain b) (v.chains.linked b hb)
      (omega (arith, kept, v.chains.short b)) (omega (arith, kept))

total_ok : (f : ℕ → Try ℕ) (n : ℕ) → ((b : ℕ) → b < n → (m : ℕ) × (f b ≡ ok m)) → (m : ℕ) × (total f n ≡ ok m)
unfolding total
total_ok f zero h = (0, refl)
total_ok f (suc n) h =
    let p = total_ok f n (λ b l. h b (omega arith)) in
    let q = h n (omega arith) in
    (p.0 + q.0, rw (p.1, q.1))

-- ── the call ──
pub on_valid : OnValid
unfolding peek_batch visits_of
on_valid t v keys count list few fits =
    let n = total_ok (visit_chain t (take count keys)) t.index.buckets (visit_one t v.0 (take count keys)) in
    let e : peek_batch t keys count list ≡ record { answer = ok done; visited = n.0; list = map (slot_for t) (take count keys) } =
    rw (sound_inv t v.0, le-leb count PEEK_BATCH few, eq-eqb (length list) count fits, n.1) in
    record { answer = ap (λ (r : Peeking). r.answer) e; list = ap (λ (r : Peeking). r.list) e; single = λ key. peek_is t v.0 key v.1 }
