-- SPDX-License-Identifier: Apache-2.0
-- The ledger's clean keys are those in the heap: the oldest stands at the root, and where every place that a victim search looks at is
-- pinned, all clean keys are, or 64. Assumes nothing.
use Prim.Native.Nat.{ℕ, ◌<◌, ◌≤◌, min}
use native.Mathlib.Omega.{arith}
use mathlib.Core.Path.{◌≡◌, refl, sym, ap, ◌∙◌, subst}
use mathlib.Core.Bool.{true, false, not, false≢true}
use mathlib.Core.List.{List, [], ◌∷◌}
use mathlib.Core.Option.{none, some}
use lib.Dec.{ltb, eqb}
use lib.ListN.{length, get_or, length-map}
use borrow.Author.Tests.{ltb-true, ltb-false}
use Rattle.basics.specs.Lists.{down, keep, some?}
use Rattle.basics.specs.Members.{In, here, there}
use Rattle.basics.proofs.Tests.{yes!, no!, is}
use Rattle.basics.proofs.Members.{in_none, in_case, in_map, map_in, inject, down_in}
use Rattle.basics.proofs.Keeps.{in_keep, keep_in}
use Rattle.eviction.specs.Entries.{at, pos_of}
use Rattle.state.specs.declared.State.{State}
use Rattle.state.specs.Slots.{slot_at}
use Rattle.state.specs.Victim.{PLACES}
use Rattle.laws_table.specs.Heap.{rank, rank_at}
use Rattle.laws_table.proofs.Ranks.{root_places}
use Rattle.laws_table.proofs.TableParts.{heap_slots, heap_length, heap_once, at_place, place_of_lem, clean_len}
use Rattle.ledger.specs.Ledger.{Held, Ledger}
use Rattle.ledger.specs.Expect.{unpinned, clean_ones, older_of, oldest}
use Rattle.ledger.proofs.Keys.Lists.{any, nil, any_is}
use Rattle.ledger.proofs.Keys.Apart.{slots_of, one_last}
use Rattle.ledger.proofs.Relation.Agree.{Agree, as_clean, as_loading, below, shows, clean_in}

-- ── the oldest of a list ──
pub data Oldest (hs : List Held) : Type 0 where
  no_one : oldest hs ≡ none → ((h : Held) → In h hs → ⊥) → Oldest hs
  eldest : (o : Held) → oldest hs ≡ some o → In o hs → ((h : Held) → In h hs → o.last ≤ h.last) → Oldest hs

pub oldest_is : (hs : List Held) → Oldest hs
unfolding oldest older_of
oldest_is [] = no_one refl (λ h i. in_none i)
oldest_is (h ∷ hs) =
    elim (oldest_is hs) [
      | no_one e n ↦ eldest h (rw e) here (λ g i. in_case i (λ q. rw q (omega arith)) (λ j. absurd (n g j)))
      | eldest o e i n ↦ elim (is (ltb h.last o.last)) [
        | yes! q ↦ let w = ltb-true h.last o.last q in eldest h (rw (e, q)) here (λ g j. in_case j (λ z. rw z (omega arith)) (λ z. omega (arith, n g z)))
        | no! q ↦ let w = ltb-false h.last o.last q in eldest o (rw (e, q)) (there i) (λ g j. in_case j (λ z. rw z w) (λ z. n g z))
      ]
    ]

module _ (t : State) (l : Ledger) (a : Agree t l) where
  abbrev slot : Held → ℕ
  slot h = h.slot

  -- ── clean keys and heap places ──
  clean_one_lem : (h : Held) → In h (clean_ones l) → In h l.held × (h.clean ≡ true)
  unfolding clean_ones
  clean_one_lem h i = keep_in (λ (h : Held). h.clean) l.held h i

  one_clean : (h : Held) → In h l.held → h.clean ≡ true → In h (clean_ones l)
  unfolding clean_ones
  one_clean h i e = in_keep (λ (h : Held). h.clean) i e

  -- the place of a clean key
  place_in : (h : Held) → In h (clean_ones l) → (j : ℕ) × (j < t.eviction.len) × ((at t.eviction j).slot ≡ h.slot) × ((at t.eviction j).last_access ≡ h.last)
  place_in h i =
      let c = clean_one_lem h i in
      elim (shows t l a h c.0) [
        | as_loading b e k y q g u m n ↦ absurd (false≢true (sym b ∙ c.1))
        | as_clean b e k u ↦
            let q = place_of_lem a.inv h.slot (below t l a h c.0) e in
            let j : ℕ = pos_of t.eviction h.slot in
            (j, q.0, q.1, sym (at_place a.inv j q.0).2 ∙ ap (λ (s : ℕ). (slot_at t s).last_access) q.1 ∙ u)
      ]

  -- the clean key at a place
  pub in_place : (j : ℕ) → j < t.eviction.len → (h : Held) × In h (clean_ones l) × (h.slot ≡ (at t.eviction j).slot) × (h.last ≡ (at t.eviction j).last_access)
  in_place j hj =
      let p = at_place a.inv j hj in
      let w = clean_in t l a (at t.eviction j).slot p.0 p.1 in
      (w.held, one_clean w.held w.member w.clean, w.slot, sym w.last ∙ p.2)

  -- "the clean key of smallest last use"
  pub root_oldest : (o : Held) → In o (clean_ones l) → ((h : Held) → In h (clean_ones l) → o.last ≤ h.last) → (0 < t.eviction.len) × ((at t.eviction 0).slot ≡ o.slot)
  unfolding rank_at rank
  root_oldest o i n =
      let (j, hj, p, q) = place_in o i in
      let pos : 0 < t.eviction.len = omega arith in
      let (g, k, d, e) = in_place 0 pos in
      let le = root_places t.eviction a.inv.heaped j hj in
      let s0 = a.inv.heap.low 0 pos in
      let sj = a.inv.heap.low j hj in
      let same : g.last ≡ o.last = omega (arith, n g k, a.inv.small) in
      (pos, sym d ∙ ap slot (one_last l.held a.orderly.apart g o (clean_one_lem g k).0 (clean_one_lem o i).0 same))

  -- ── pins ──
  pub data Pinned (pins : List ℕ) : Type 0 where
    all_pinned : some? (unpinned pins) (clean_ones l) ≡ false → Pinned pins
    many_pinned : PLACES ≤ length (keep (λ (o : Held). not (unpinned pins o)) (clean_ones l)) → PLACES ≤ t.clean → Pinned pins

  pub pinned_is : (pins : List ℕ) → ((j : ℕ) → j < min t.clean PLACES → j < t.eviction.len → eqb (get_or pins (at t.eviction j).slot 0) 0 ≡ false) → Pinned pins
  pinned_is pins n =
      let len = clean_len a.inv in
      elim (is (ltb t.clean PLACES)) [
        | yes! e ↦
            let w = ltb-true t.clean PLACES e in
            elim (any_is (unpinned pins) (clean_ones l)) [
              | nil q z ↦ all_pinned q
              | any q h i f ↦ let (j, hj, b, d) = place_in h i in absurd (false≢true (sym (n j (omega arith) hj) ∙ ap (λ (s : ℕ). eqb (get_or pins s 0) 0) b ∙ f))
            ]
        | no! e ↦
            let w = ltb-false t.clean PLACES e in
            let k : List Held = keep (λ (o : Held). not (unpinned pins o)) (clean_ones l) in
            let ys : List ℕ = heap_slots t.eviction PLACES in
            let le : length ys ≤ length (slots_of k) = inject ys (slots_of k) (heap_once a.inv PLACES (omega arith)) (λ x i.
            let (j, m, q) = map_in (λ (j : ℕ). (at t.eviction j).slot) (down PLACES) x i in
            let hj = down_in PLACES j m in
            let (h, d, b, u) = in_place j (omega arith) in
            let z : not (unpinned pins h) ≡ true = rw (b, n j (omega arith) (omega arith)) in
            subst (λ (y : ℕ). In y (slots_of k)) (b ∙ sym q) (in_map slot (in_keep (λ (o : Held). not (unpinned pins o)) d z))) in
            many_pinned (omega (arith, heap_length t.eviction PLACES, length-map k slot)) w
      ]
