-- SPDX-License-Identifier: Apache-2.0
-- Where one slot of the table is anew and the ledger changes by its key there, the two agree again: a key used, a key that leaves, a token
-- published or aborted, a reservation. Assumes nothing.
use Prim.Native.Nat.{ℕ, ◌+◌, ◌<◌}
use native.Mathlib.Omega.{arith}
use mathlib.Core.Path.{◌≡◌, refl, sym, ap, ◌∙◌, fun_ext}
use mathlib.Core.Bool.{true, false, false≢true}
use mathlib.Core.List.{List, [], ◌∷◌, map}
use mathlib.Core.Option.{Option, none, some}
use lib.Dec.{eqb}
use borrow.Author.Tests.{eqb-true, eqb-false, ne_eqb}
use Rattle.basics.specs.Lists.{keep}
use Rattle.basics.specs.Members.{In, here, there}
use Rattle.basics.proofs.Tests.{yes!, no!, is, none_some}
use Rattle.basics.proofs.Members.{in_case}
use Rattle.basics.proofs.Maps.{put, put_put}
use Rattle.key.specs.declared.CacheKey.{CacheKey}
use Rattle.state.specs.declared.Slot.{Slot}
use Rattle.state.specs.declared.State.{State}
use Rattle.state.specs.declared.LoadToken.{LoadToken}
use Rattle.state.specs.Slots.{slot_at, vacant_slot, loading_slot, clean_slot, is_loading, is_clean}
use Rattle.laws_table.specs.Table.{Step}
use Rattle.laws_table.proofs.SlotKinds.{vacant_free, clean_not_loading, loading_not_clean, loading_occupied}
use Rattle.laws_table.proofs.ValidSteps.{step_here, step_other}
use Rattle.laws_table.proofs.StepTokens.{Loads}
use Rattle.ledger.specs.Ledger.{Held, Ledger, with_held, next_token, reserves, not_at, used_one, uses, ends, clean_one, not_key}
use Rattle.ledger.proofs.Keys.Lists.{keep_all}
use Rattle.ledger.proofs.Keys.Slots.{at, at_in, at_cons, not_in_held, not_at_lem, at_keep, not_key_apart, at_one}
use Rattle.ledger.proofs.Keys.Changes.{used_yes, used_no, used_slot, clean_yes, clean_no, clean_slot_lem}
use Rattle.ledger.proofs.Relation.Orderly.{Orderly, orderly_keep, orderly_uses, orderly_aborted, orderly_published, orderly_reserves}
use Rattle.ledger.proofs.Relation.Agree.{as_clean, as_loading, Fit, bare, full, Agree, held_in, clean_in}

-- ── one slot anew on both sides ──
-- the tokens of other slots are as they were
pub record Others (x : ℕ) (l r : Ledger) : Type 0 where
  pub more : (k : LoadToken) → In k l.given → In k r.given
  pub less : (k : LoadToken) → In k r.given → (k.slot ≡ x → ⊥) → In k l.given
  pub later : (k : LoadToken) → In k l.ended → In k r.ended
  pub before : (k : LoadToken) → In k r.ended → (k.slot ≡ x → ⊥) → In k l.ended

-- what an outstanding token finds in its slot
abbrev LoadsIn : Slot → LoadToken → Type 0
LoadsIn s k = (is_loading s ≡ true) × (s.key ≡ k.key) × (s.generation ≡ k.generation)

module _ {t u : State} {l : Ledger} (a : Agree t l) {x nu ng nc nl : ℕ} {s : Slot} (p : Step t u x s nu ng nc nl) where
  module _ (o : Option Held) (r : Ledger) (on : Others x l r) (ch : (n : ℕ) → at r.held n ≡ put x o (at l.held) n) (fx : Fit r x s o) where
    fit_anew : (n : ℕ) → n < u.capacity → Fit r n (slot_at u n) (at r.held n)
    fit_anew n hn =
        rw (ch n) (elim (is (eqb n x)) [
          | yes! e ↦ rw (e, eqb-true n x e, step_here p a.inv) fx
          | no! e ↦
              let ne : n ≡ x → ⊥ = eqb-false n x e in
              rw (e, step_other p n ne) (elim (a.fit n (omega (arith, p.capacity))) [
                | bare q z ↦ bare q z
                | full h q w ↦ full h q (elim w [
                  | as_clean c e k d ↦ as_clean c e k d
                  | as_loading c e k y b g d i z ↦ as_loading c e k y b g d (on.more y i) (λ j. z (on.before y j (λ (v : y.slot ≡ x). ne (sym b ∙ v))))
                ])
              ])
        ])

    still_anew : ((k : LoadToken) → In k r.given → (In k r.ended → ⊥) → k.slot ≡ x → LoadsIn s k) → (k : LoadToken) → In k r.given → (In k r.ended → ⊥) → Loads u k
    still_anew st k i n =
        elim (is (eqb k.slot x)) [
          | yes! e ↦
              let q : k.slot ≡ x = eqb-true k.slot x e in
              let w = st k i n q in
              let same : slot_at u k.slot ≡ s = ap (slot_at u) q ∙ step_here p a.inv in
              record { low = omega (arith, p.low, p.capacity); loading = rw same w.0; key = rw same w.1; generation = rw same w.2 }
          | no! e ↦
              let ne : k.slot ≡ x → ⊥ = eqb-false k.slot x e in
              let w = a.still k (on.less k i ne) (λ y. n (on.later k y)) in
              let same : slot_at u k.slot ≡ slot_at t k.slot = step_other p k.slot ne in
              record { low = omega (arith, w.low, p.capacity); loading = rw same w.loading; key = rw same w.key; generation = rw same w.generation }
        ]

    pub agree_step : Orderly r → r.capacity ≡ l.capacity → r.uses ≡ nu → r.generations ≡ ng → ((k : LoadToken) → In k r.given → (In k r.ended → ⊥) → k.slot ≡ x → LoadsIn s k) → Agree u r
    agree_step od ec eu eg st =
        record {
          inv = p.inv;
          orderly = od;
          capacity = ec ∙ a.capacity ∙ sym p.capacity;
          uses = eu ∙ sym p.uses;
          generations = eg ∙ sym p.generations;
          fit = fit_anew;
          still = still_anew st;
        }

-- the ledger's tokens stay
same_tokens : (x : ℕ) (l r : Ledger) → r.given ≡ l.given → r.ended ≡ l.ended → Others x l r
same_tokens x l r g e = record { more = λ k i. rw g i; less = λ k i n. rw g at i; later = λ k i. rw e i; before = λ k i n. rw e at i }

module _ {t : State} {l : Ledger} (a : Agree t l) where
  -- no outstanding token has a slot that is not loading
  not_still : (x : ℕ) → is_loading (slot_at t x) ≡ false → {P : Type 0} → (k : LoadToken) → In k l.given → (In k l.ended → ⊥) → k.slot ≡ x → P
  not_still x e k i n q = absurd (false≢true (sym e ∙ ap (λ (y : ℕ). is_loading (slot_at t y)) (sym q) ∙ (a.still k i n).loading))

  -- ── a key is used ──
  pub agree_used : (key : CacheKey) {u : State} {x nc nl : ℕ} → is_clean (slot_at t x) ≡ true → (slot_at t x).key ≡ key → Step t u x (clean_slot key (t.next_access_sequence + 1)) (t.next_access_sequence + 1) t.next_load_generation nc nl → Agree u (uses l key)
  unfolding uses
  agree_used key {x = x} ec ek p =
      let n : ℕ = l.uses + 1 in
      let f : Held → Held = used_one key n in
      let w = clean_in t l a x p.low ec in
      let h : Held = w.held in
      let hk : h.key ≡ key = sym w.key ∙ ek in
      let n≡ : t.next_access_sequence + 1 ≡ n = rw a.uses in
      agree_step a p (some (f h)) (uses l key) (same_tokens x l (uses l key) refl refl)
      (at_one f l.held x h a.orderly.apart w.there (used_slot key n) (λ g ne. used_no key n g (λ q. ne (q ∙ sym hk))))
      (full (f h) refl (rw (used_yes key n h hk) (as_clean w.clean refl (sym hk) n≡)))
      (orderly_uses l a.orderly key) refl (sym n≡) a.generations
      (λ k i m q. not_still x (clean_not_loading (slot_at t x) ec) k i m q)

  -- ── a clean key leaves ──
  pub agree_left : {u : State} {x nc nl : ℕ} → is_clean (slot_at t x) ≡ true → Step t u x vacant_slot t.next_access_sequence t.next_load_generation nc nl → Agree u (with_held l (not_at (x ∷ []) l.held))
  agree_left {x = x} ec p =
      rw (not_at_lem x l.held) (agree_step a p none (with_held l (keep (not_in_held x) l.held)) (same_tokens x l (with_held l (keep (not_in_held x) l.held)) refl refl)
      (λ n. at_keep x n l.held) (bare refl vacant_free) (orderly_keep l a.orderly (not_in_held x)) refl a.uses a.generations
      (λ k i m q. not_still x (clean_not_loading (slot_at t x) ec) k i m q))

  -- ── a token ends ──
  module _ (k : LoadToken) (i : In k l.given) (n : In k l.ended → ⊥) where
    end_others : (hs : List Held) → Others k.slot l (ends l k hs)
    end_others hs = record { more = λ y j. j; less = λ y j z. j; later = λ y j. there j; before = λ y j z. in_case j (λ q. absurd (z (ap (λ (w : LoadToken). w.slot) q))) (λ w. w) }

    -- it was the slot's only one
    end_last : {P : Type 0} → (y : LoadToken) → In y l.given → (In y (k ∷ l.ended) → ⊥) → y.slot ≡ k.slot → P
    end_last y j z q =
        let b = a.still y j (λ w. z (there w)) in
        let d = a.still k i n in
        let g : y.generation ≡ k.generation = sym b.generation ∙ ap (λ (w : ℕ). (slot_at t w).generation) q ∙ d.generation in
        absurd (z (rw (a.orderly.single y k j i g) here))

    -- the ledger's key of the token
    record Ours : Type 0 where
      pub held : Held
      pub there : at l.held k.slot ≡ some held
      pub member : In held l.held
      pub slot : held.slot ≡ k.slot
      pub key : held.key ≡ k.key
      pub last : held.last ≡ k.access_sequence

    ours : Ours
    ours =
        let d = a.still k i n in
        let (h, e, j, q, w) = held_in t l a k.slot d.low (loading_occupied (slot_at t k.slot) d.loading) in
        elim w [
          | as_clean c f b u ↦ absurd (false≢true (sym (loading_not_clean (slot_at t k.slot) d.loading) ∙ f))
          | as_loading c f b y z g u m v ↦
              let yk : y ≡ k = a.orderly.single y k m i (sym g ∙ d.generation) in
              record { held = h; there = e; member = j; slot = q; key = sym b ∙ d.key; last = sym u ∙ ap (λ (w : LoadToken). w.access_sequence) yk }
        ]

    pub agree_abort : {u : State} {nc nl : ℕ} → Step t u k.slot vacant_slot t.next_access_sequence t.next_load_generation nc nl → Agree u (ends l k (not_key k.key l.held))
    agree_abort p =
        let w = ours in
        let hs : List Held = keep (not_in_held k.slot) l.held in
        let q : not_key k.key l.held ≡ hs = ap (λ (y : CacheKey). not_key y l.held) (sym w.key) ∙ not_key_apart l.held a.orderly.apart w.held w.member ∙ ap (λ (y : ℕ). keep (not_in_held y) l.held) w.slot in
        rw q (agree_step a p none (ends l k hs) (end_others hs) (λ y. at_keep k.slot y l.held) (bare refl vacant_free) (orderly_aborted l a.orderly k i (not_in_held k.slot)) refl a.uses a.generations
        (λ y j z e. end_last y j z e))

    pub agree_publish : {u : State} {nc nl : ℕ} → Step t u k.slot (clean_slot k.key k.access_sequence) t.next_access_sequence t.next_load_generation nc nl → Agree u (ends l k (map (clean_one k.key) l.held))
    agree_publish p =
        let w = ours in
        let h : Held = w.held in
        let f : Held → Held = clean_one k.key in
        agree_step a p (some (f h)) (ends l k (map f l.held)) (end_others (map f l.held))
        (at_one f l.held k.slot h a.orderly.apart w.there (clean_slot_lem k.key) (λ g ne. clean_no k.key g (λ q. ne (q ∙ sym w.key))))
        (full (f h) refl (rw (clean_yes k.key h w.key) (as_clean refl refl (sym w.key) (sym w.last))))
        (orderly_published l a.orderly k i k.key) refl a.uses a.generations
        (λ y j z e. end_last y j z e)

  -- ── a reservation ──
  module _ (key : CacheKey) {u : State} {x nc nl : ℕ} (out : (h : Held) → In h l.held → h.key ≡ key → ⊥) (free : is_loading (slot_at t x) ≡ false)
      (p : Step t u x (loading_slot key (t.next_load_generation + 1)) (t.next_access_sequence + 1) (t.next_load_generation + 1) nc nl) where
    -- the key of the slot, if any, is gone
    pub agree_evicted : Agree u (reserves l key x (not_at (x ∷ []) l.held))
    unfolding reserves next_token
    agree_evicted =
        let hs : List Held = keep (not_in_held x) l.held in
        let new : Held = record { key = key; slot = x; clean = false; last = l.uses + 1 } in
        let tok : LoadToken = next_token l key x in
        let g≡ : t.next_load_generation + 1 ≡ l.generations + 1 = rw a.generations in
        rw (not_at_lem x l.held) (agree_step a p (some new) (reserves l key x hs)
        (record {
          more = λ k i. there i;
          less = λ k i n. in_case i (λ q. absurd (n (ap (λ (z : LoadToken). z.slot) q))) (λ z. z);
          later = λ k i. i;
          before = λ k i n. i;
        })
        (λ n. at_cons new hs n ∙ ap (λ (q : ℕ → Option Held). put x (some new) q n) (fun_ext (λ y. at_keep x y l.held)) ∙ ap (λ (q : ℕ → Option Held). q n) (put_put x (some new) none (at l.held)))
        (full new refl (as_loading refl refl refl tok refl g≡ refl here (λ i. let z = a.orderly.past tok i in omega arith)))
        (orderly_reserves l a.orderly key x (omega (arith, p.low, a.capacity)) out) refl (rw a.uses) (rw a.generations)
        (λ k i n q. in_case i (λ e. rw e (refl, refl, g≡)) (λ j. not_still x free k j n q)))

    -- there was none
    pub agree_taken : at l.held x ≡ none → Agree u (reserves l key x l.held)
    agree_taken e =
        let q : not_at (x ∷ []) l.held ≡ l.held = not_at_lem x l.held ∙ keep_all (not_in_held x) l.held (λ y i. rw (ne_eqb y.slot x (λ (z : y.slot ≡ x). none_some (sym e ∙ ap (at l.held) (sym z) ∙ at_in l.held a.orderly.apart y i)))) in
        rw q at agree_evicted
