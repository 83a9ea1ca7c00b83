-- SPDX-License-Identifier: Apache-2.0
-- A table and a ledger agree: the numbers are the same, each slot shows the ledger's key there or none, and each outstanding token has its
-- loading slot. What one side has is found on the other, and the table is valid. Assumes nothing.
use Prim.Native.Nat.{ℕ, ◌<◌, ◌≤◌}
use native.Mathlib.Omega.{arith}
use mathlib.Core.Path.{◌≡◌, refl, sym, ap, ◌∙◌, subst}
use mathlib.Core.Bool.{true, false, false≢true}
use mathlib.Core.Option.{Option, none, some}
use Rattle.basics.specs.Lists.{first}
use Rattle.basics.specs.Members.{In}
use Rattle.basics.proofs.Tests.{some_same, none_some}
use Rattle.basics.proofs.Members.{in_none}
use Rattle.key.specs.declared.CacheKey.{CacheKey}
use Rattle.state.specs.declared.Slot.{Slot}
use Rattle.state.specs.declared.State.{State}
use Rattle.state.specs.declared.LoadToken.{LoadToken}
use Rattle.state.specs.Slots.{slot_at, is_loading, is_clean, occupied}
use Rattle.state.specs.Fresh.{empty, fresh}
use Rattle.laws_table.specs.Table.{Inv, Distinct, Dated, Valid, Absent}
use Rattle.laws_table.proofs.SlotKinds.{vacant_free, clean_occupied, clean_not_loading, loading_occupied, loading_not_clean}
use Rattle.laws_table.proofs.StepTokens.{Loads}
use Rattle.laws_table.proofs.FreshTable.{fresh_inv, fresh_slot}
use Rattle.ledger.specs.Ledger.{Held, Ledger, begin}
use Rattle.ledger.proofs.Keys.Apart.{one_key}
use Rattle.ledger.proofs.Keys.Slots.{at, at_in, in_at}
use Rattle.ledger.proofs.Relation.Orderly.{Orderly, orderly_begin}

-- what the slot n shows of the key h that the ledger l has there
pub data Shows (l : Ledger) (n : ℕ) (s : Slot) (h : Held) : Type 0 where
  as_clean : h.clean ≡ true → is_clean s ≡ true → s.key ≡ h.key → s.last_access ≡ h.last → Shows l n s h
  -- the token of its reservation is outstanding
  as_loading : h.clean ≡ false → is_loading s ≡ true → s.key ≡ h.key → (k : LoadToken) → k.slot ≡ n → s.generation ≡ k.generation → k.access_sequence ≡ h.last → In k l.given → (In k l.ended → ⊥)
      → Shows l n s h

-- what it shows of the key there, or of none
pub data Fit (l : Ledger) (n : ℕ) (s : Slot) (o : Option Held) : Type 0 where
  bare : o ≡ none → occupied s ≡ false → Fit l n s o
  full : (h : Held) → o ≡ some h → Shows l n s h → Fit l n s o

pub record Agree (t : State) (l : Ledger) : Type 0 where
  pub inv : Inv t
  pub orderly : Orderly l
  pub capacity : l.capacity ≡ t.capacity
  pub uses : l.uses ≡ t.next_access_sequence
  pub generations : l.generations ≡ t.next_load_generation
  pub fit : (n : ℕ) → n < t.capacity → Fit l n (slot_at t n) (at l.held n)
  pub still : (k : LoadToken) → In k l.given → (In k l.ended → ⊥) → Loads t k

-- "that of the fresh table", "(at first none)"
pub agree_fresh : (c : ℕ) → 0 < c → c ≤ 256 → Agree (fresh c) (begin c)
unfolding begin fresh empty first
agree_fresh c hp hs =
    record {
      inv = fresh_inv c hp hs;
      orderly = orderly_begin c;
      capacity = refl;
      uses = refl;
      generations = refl;
      fit = λ n hn. bare refl (rw (fresh_slot c n) vacant_free);
      still = λ k i n. in_none i;
    }

-- a slot that shows a key holds it
pub shown_key : {l : Ledger} {n : ℕ} {s : Slot} {h : Held} → Shows l n s h → (occupied s ≡ true) × (s.key ≡ h.key)
shown_key {s = s} w =
    elim w [
      | as_clean c e k u ↦ (clean_occupied s e, k)
      | as_loading c e k t q g u i n ↦ (loading_occupied s e, k)
    ]

module _ (t : State) (l : Ledger) (a : Agree t l) where
  pub below : (h : Held) → In h l.held → h.slot < t.capacity
  below h i = omega (arith, a.orderly.inside h i, a.capacity)

  -- ── from a key to its slot ──
  pub shows : (h : Held) → In h l.held → Shows l h.slot (slot_at t h.slot) h
  shows h i =
      elim (a.fit h.slot (below h i)) [
        | bare e q ↦ absurd (none_some (sym e ∙ at_in l.held a.orderly.apart h i))
        | full g e s ↦ subst (Shows l h.slot (slot_at t h.slot)) (some_same (sym e ∙ at_in l.held a.orderly.apart h i)) s
      ]

  -- a key that no slot holds is not the ledger's
  pub absent_key : (key : CacheKey) → Absent t key → (h : Held) → In h l.held → h.key ≡ key → ⊥
  absent_key key n h i e = let w = shown_key (shows h i) in n h.slot (below h i) w.0 (w.1 ∙ e)

  -- ── from a slot to its key ──
  pub held_in : (x : ℕ) → x < t.capacity → occupied (slot_at t x) ≡ true → (h : Held) × (at l.held x ≡ some h) × In h l.held × (h.slot ≡ x) × Shows l x (slot_at t x) h
  held_in x hx e =
      elim (a.fit x hx) [
        | bare o q ↦ absurd (false≢true (sym q ∙ e))
        | full h o s ↦ (h, o, (in_at l.held x h o).0, (in_at l.held x h o).1, s)
      ]

  pub bare_at : (x : ℕ) → x < t.capacity → occupied (slot_at t x) ≡ false → at l.held x ≡ none
  bare_at x hx e =
      elim (a.fit x hx) [
        | bare o q ↦ o
        | full h o s ↦ absurd (false≢true (sym e ∙ (shown_key s).0))
      ]

  -- the key of a clean slot
  pub record CleanIn (x : ℕ) : Type 0 where
    pub held : Held
    pub there : at l.held x ≡ some held
    pub member : In held l.held
    pub slot : held.slot ≡ x
    pub clean : held.clean ≡ true
    pub key : (slot_at t x).key ≡ held.key
    pub last : (slot_at t x).last_access ≡ held.last

  pub clean_in : (x : ℕ) → x < t.capacity → is_clean (slot_at t x) ≡ true → CleanIn x
  clean_in x hx e =
      let (h, o, i, q, s) = held_in x hx (clean_occupied (slot_at t x) e) in
      elim s [
        | as_clean c d k u ↦ record { held = h; there = o; member = i; slot = q; clean = c; key = k; last = u }
        | as_loading c d k y p g u z n ↦ absurd (false≢true (sym (clean_not_loading (slot_at t x) e) ∙ d))
      ]

  -- the key of a loading slot
  pub loading_in : (x : ℕ) → x < t.capacity → is_loading (slot_at t x) ≡ true → (h : Held) × In h l.held × (h.clean ≡ false) × ((slot_at t x).key ≡ h.key)
  loading_in x hx e =
      let (h, o, i, q, s) = held_in x hx (loading_occupied (slot_at t x) e) in
      elim s [
        | as_clean c d k u ↦ absurd (false≢true (sym (loading_not_clean (slot_at t x) e) ∙ d))
        | as_loading c d k y p g u z n ↦ (h, i, c, k)
      ]

  -- ── the table is valid ──
  agree_distinct : Distinct t.slots t.capacity
  agree_distinct x y hx hy ox oy e =
      let (h, o, i, q, s) = held_in x hx ox in
      let (g, p, j, w, r) = held_in y hy oy in
      sym q ∙ ap (λ (u : Held). u.slot) (one_key l.held a.orderly.apart h g i j (sym (shown_key s).1 ∙ e ∙ (shown_key r).1)) ∙ w

  pub agree_dated : Dated t.slots t.capacity t.next_access_sequence
  agree_dated x hx e = let w = clean_in x hx e in omega (arith, w.last, a.orderly.dated w.held w.member, a.uses)

  pub agree_valid : Valid t
  agree_valid = (a.inv, agree_distinct, agree_dated)
