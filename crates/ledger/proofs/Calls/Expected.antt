-- SPDX-License-Identifier: Apache-2.0
-- What the ledger gives for an access, told by the table: the key's chain, its stack and the places of its heap. Assumes nothing.
use Rattle.std.proofs.Common.{if◌then◌else◌}
use Prim.Native.Nat.{ℕ, ◌<◌, ◌≤◌, min}
use native.Mathlib.Omega.{arith}
use mathlib.Core.Path.{◌≡◌, refl, sym, ap, ◌∙◌}
use mathlib.Core.Logic.{inl, inr}
use mathlib.Core.Bool.{Bool, true, false, not, ◌&&◌, false≢true}
use mathlib.Core.List.{List}
use mathlib.Core.Option.{Option, none, some}
use lib.Dec.{ltb, leb, eqb}
use lib.ListN.{length}
use borrow.Author.Tests.{eqb-true, eqb-false, lt-ltb, le-ltb, le-leb, lt-leb, eq-eqb, ne_eqb}
use Rattle.basics.specs.Try.{ok, refuse}
use Rattle.basics.specs.Refusals.{PINS}
use Rattle.basics.specs.Lists.{keep, some?, first}
use Rattle.basics.specs.Members.{In}
use Rattle.basics.proofs.Tests.{yes!, no!, is, none_some}
use Rattle.basics.proofs.Keeps.{hits, fails, look}
use Rattle.key.specs.declared.CacheKey.{CacheKey}
use Rattle.key.specs.Key.{same_key}
use Rattle.key.proofs.Keys.{same_key_lem, key_eq}
use Rattle.index.specs.Chain.{CHAIN}
use Rattle.eviction.specs.Entries.{at}
use Rattle.eviction.specs.Victim as slots
use Rattle.state.specs.declared.State.{State}
use Rattle.state.specs.Slots.{slot_at, occupied}
use Rattle.state.specs.Answers.{hit, in_progress, reserved, evicted, busy}
use Rattle.state.specs.Victim.{PLACES}
use Rattle.state.specs.Access as rules
use Rattle.laws_table.proofs.TableParts.{slots_sum, clean_len}
use Rattle.laws_table.proofs.StepReserve.{chain_of}
use Rattle.ledger.specs.Ledger.{Held, Ledger, next_token}
use Rattle.ledger.specs.Expect.{SHARE, PINNED, unpinned, clean_ones, oldest, sharing, exactly, vacancy, expect_victim, expect_key, expect}
use Rattle.ledger.specs.Claim.{Gives}
use Rattle.ledger.proofs.Keys.Lists.{true_T, any, nil, any_is, some_in}
use Rattle.ledger.proofs.Keys.Apart.{one_key}
use Rattle.ledger.proofs.Keys.Slots as keys
use Rattle.ledger.proofs.Relation.Agree.{Agree, bare_at}
use Rattle.ledger.proofs.Relation.Counts.{held_count, sharing_chain}
use Rattle.ledger.proofs.Relation.Places.{no_one, eldest, oldest_is, in_place, root_oldest, all_pinned, many_pinned, pinned_is}

module _ (t : State) (l : Ledger) (a : Agree t l) (key : CacheKey) (allow : Bool) (pins : List ℕ) where
  -- "Access with pin bytes not as many as slots gives 3"
  pub expect_pins : (length pins ≡ t.capacity → ⊥) → expect l key allow pins ≡ exactly (refuse PINS)
  unfolding expect
  expect_pins n = rw (ne_eqb (length pins) l.capacity (λ (e : length pins ≡ l.capacity). n (e ∙ a.capacity)))

  -- "The token is the slot given, the new key and the next of both numbers."
  same_token_lem : (x : ℕ) → next_token l key x ≡ rules.next_token t key x
  unfolding next_token
  same_token_lem x = rw (a.uses, a.generations)

  module _ (lp : length pins ≡ t.capacity) where
    expect_key_lem : (o : Option Held) → first (λ (h : Held). same_key h.key key) l.held ≡ o → expect l key allow pins ≡ expect_key l key allow pins o
    unfolding expect
    expect_key_lem o e = rw (eq-eqb (length pins) l.capacity (lp ∙ sym a.capacity), e)

    -- ── a present key ──
    -- "Hit with the key's slot if clean, LoadInProgress if loading"
    pub expect_held : (h : Held) → In h l.held → h.key ≡ key → expect l key allow pins ≡ (if h.clean then exactly (ok (hit h.slot)) else exactly (ok in_progress))
    unfolding expect_key
    expect_held h i e =
        expect_key_lem (some h) (elim (look (λ (h : Held). same_key h.key key) l.held) [
          | hits g j q f ↦ f ∙ ap {B = Option Held} some (one_key l.held a.orderly.apart g h j i (key_eq g.key key q ∙ sym e))
          | fails f k ↦ absurd (false≢true (sym (k h i) ∙ rw e (same_key_lem key)))
        ])

    -- ── an absent key ──
    module _ (out : (h : Held) → In h l.held → h.key ≡ key → ⊥) where
      expect_absent : expect l key allow pins ≡ expect_key l key allow pins none
      expect_absent = expect_key_lem none (elim (look (λ (h : Held). same_key h.key key) l.held) [ hits h i q f ↦ absurd (out h i (key_eq h.key key q)) | fails f k ↦ f ])

      -- "CapacityBusy if loading is not allowed"
      pub expect_barred : allow ≡ false → expect l key allow pins ≡ exactly (ok busy)
      unfolding expect_key
      expect_barred e = expect_absent ∙ rw e

      -- "or 64 present keys share its bucket"
      pub expect_full : allow ≡ true → CHAIN ≤ length (chain_of t a.inv key) → expect l key allow pins ≡ exactly (ok busy)
      unfolding expect_key
      expect_full e h = expect_absent ∙ rw (e, le-leb SHARE (sharing l key) (omega (arith, sharing_chain t l a key)))

      module _ (ea : allow ≡ true) (room : length (chain_of t a.inv key) < CHAIN) where
        not_full : leb SHARE (sharing l key) ≡ false
        not_full = lt-leb SHARE (sharing l key) (omega (arith, sharing_chain t l a key))

        -- "reserved without eviction, .. if fewer keys than capacity are present"
        expect_vacancy : 0 < t.index.free_len → expect l key allow pins ≡ vacancy
        unfolding expect_key
        expect_vacancy h = expect_absent ∙ rw (ea, not_full, lt-ltb (length l.held) l.capacity (omega (arith, held_count t l a, a.capacity, slots_sum a.inv)))

        expect_victim_lem : t.index.free_len ≡ 0 → (o : Option Held) → oldest (clean_ones l) ≡ o → expect l key allow pins ≡ expect_victim l pins o
        unfolding expect_key
        expect_victim_lem h o e = expect_absent ∙ rw (ea, not_full, le-ltb (length l.held) l.capacity (omega (arith, held_count t l a, a.capacity, slots_sum a.inv)), e)

        -- ── a vacant slot is among those left open ──
        pub gives_vacant : 0 < t.index.free_len → (x : ℕ) → x < t.capacity → occupied (slot_at t x) ≡ false → Gives l key pins (expect l key allow pins) (ok (reserved (rules.next_token t key x)))
        gives_vacant hv x hx ho =
            rw (expect_vacancy hv) (
              x,
              true_T (ltb x l.capacity) (lt-ltb x l.capacity (omega (arith, a.capacity))),
              elim (any_is (λ (h : Held). eqb h.slot x) l.held) [
                | any q h i f ↦ absurd (none_some (sym (bare_at t l a x hx ho) ∙ ap (keys.at l.held) (sym (eqb-true h.slot x f)) ∙ keys.at_in l.held a.orderly.apart h i))
                | nil q n ↦ rw q tt
              ],
              rw (same_token_lem x),
            )

  -- ── a victim ──
  -- the key at the first unpinned place is the oldest, if that is unpinned
  pub first_unpinned : (j : ℕ) → ((k : ℕ) → k < j → slots.unpinned pins (at t.eviction k).slot ≡ false) → (o : Held) → In o (clean_ones l) → ((h : Held) → In h (clean_ones l) → o.last ≤ h.last) → unpinned pins o ≡ true → (at t.eviction j).slot ≡ o.slot
  first_unpinned j n o i le u =
      let (pos, q) = root_oldest t l a o i le in
      elim (is (eqb j 0)) [
        | yes! e ↦ rw (eqb-true j 0 e) q
        | no! e ↦ absurd (false≢true (sym (n 0 (omega (arith, eqb-false j 0 e))) ∙ ap (slots.unpinned pins) q ∙ u))
      ]

  module _ (lp : length pins ≡ t.capacity) (out : (h : Held) → In h l.held → h.key ≡ key → ⊥) (ea : allow ≡ true) (room : length (chain_of t a.inv key) < CHAIN) (hv : t.index.free_len ≡ 0) where
    -- "the clean key of smallest last use goes if unpinned; if it is pinned, some unpinned clean key goes"
    pub gives_victim : (j : ℕ) → j < t.eviction.len → slots.unpinned pins (at t.eviction j).slot ≡ true → ((k : ℕ) → k < j → slots.unpinned pins (at t.eviction k).slot ≡ false)
        → Gives l key pins (expect l key allow pins) (ok (evicted (rules.next_token t key (at t.eviction j).slot)))
    unfolding expect_victim
    gives_victim j hj f n =
        let x : ℕ = (at t.eviction j).slot in
        let (g, gi, gs, gl) = in_place t l a j hj in
        let gu : unpinned pins g ≡ true = rw gs f in
        let some_one : some? (unpinned pins) (clean_ones l) ≡ true = some_in (unpinned pins) (clean_ones l) g gi gu in
        elim (oldest_is (clean_ones l)) [
          | no_one e z ↦ absurd (z g gi)
          | eldest o e i le ↦
              let ex = expect_victim_lem lp out ea room hv (some o) e in
              elim (is (unpinned pins o)) [
                | yes! u ↦ rw (ex, some_one, u, same_token_lem o.slot, first_unpinned j n o i le u) refl
                | no! u ↦ rw (ex, some_one, u) (inl (
                  x,
                  true_T (some? (λ (h : Held). eqb h.slot x && unpinned pins h) (clean_ones l)) (some_in (λ (h : Held). eqb h.slot x && unpinned pins h) (clean_ones l) g gi (rw (eq-eqb g.slot x gs, gu))),
                  rw (same_token_lem x),
                ))
              ]
        ]

    -- "with no unpinned clean key, CapacityBusy"; "only with 64 or more clean keys pinned, CapacityBusy may come instead"
    pub gives_busy : ((j : ℕ) → j < min t.clean PLACES → j < t.eviction.len → slots.unpinned pins (at t.eviction j).slot ≡ false) → Gives l key pins (expect l key allow pins) (ok busy)
    unfolding expect_victim
    gives_busy n =
        elim (oldest_is (clean_ones l)) [
          | no_one e z ↦ rw (expect_victim_lem lp out ea room hv none e) refl
          | eldest o e i le ↦
              let ex = expect_victim_lem lp out ea room hv (some o) e in
              elim (is (some? (unpinned pins) (clean_ones l))) [
                | no! z ↦ rw (ex, z) refl
                | yes! z ↦ elim (is (unpinned pins o)) [
                  | yes! u ↦
                      let (pos, w) = root_oldest t l a o i le in
                      absurd (false≢true (sym (n 0 (omega (arith, clean_len a.inv)) pos) ∙ ap (slots.unpinned pins) w ∙ u))
                  | no! u ↦ elim (pinned_is t l a pins n) [
                    | all_pinned q ↦ absurd (false≢true (sym q ∙ z))
                    | many_pinned q c ↦ rw (ex, z, u, le-leb PINNED (length (keep (λ (o : Held). not (unpinned pins o)) (clean_ones l))) (omega (arith, q))) (inr (tt, refl))
                  ]
                ]
              ]
        ]
