-- SPDX-License-Identifier: Apache-2.0
-- The pins and the tokens beside a table: pins that are lent, set or moved, a token put in its place, and a table with one slot anew. Assumes nothing.
use Rattle.std.proofs.Common.{Option as Maybe}
use Prim.Native.Nat.{ℕ, zero, suc, ◌+◌, ◌≤◌, ◌<◌}
use native.Mathlib.Omega.{arith}
use mathlib.Core.Path.{◌≡◌, refl, sym, ap, ◌∙◌}
use mathlib.Core.Bool.{true, false}
use mathlib.Core.List.{List}
use lib.Dec.{eqb, ltb}
use lib.ListN.{length, get_or, set, replicate, length-set, length-replicate, get_or-eq_default}
use lib.Seq.{get_or-set_same, get_or-set_other, get_or-take, length-take-le}
use borrow.Author.Tests.{eqb-true, eqb-false, ltb-true, ltb-false}
use Rattle.basics.specs.Numbers.{NONE}
use Rattle.basics.proofs.Tests.{is, yes!, no! }
use Rattle.eviction.specs.Victim.{unpinned}
use Rattle.state.specs.declared.Slot.{Slot}
use Rattle.state.specs.declared.State.{State}
use Rattle.state.specs.declared.LoadToken.{LoadToken}
use Rattle.state.specs.Slots.{slot_at, vacant_slot, is_clean}
use Rattle.maintenance_restore.specs.Pins.{pins_clean}
use Rattle.laws_table.specs.Table.{Valid, Step}
use Rattle.laws_maintenance.proofs.Lists.{all_same}
use Rattle.sheet_standing.specs.declared.Standing.{Standing}
use Rattle.sheet_steps.specs.Standing.{empty_place, holding, empty_places, no_pins, lent_pins, lent_list}
use Rattle.sheet_steps.specs.Steps.{move_pins}
use Rattle.laws_sheet.specs.Orderly.{GivenTokens, InOrder}

-- ── what is lent ──
-- "as many as slots"
module _ (s : Standing) (g : InOrder s.state s.pins s.places) where
  pub lent_length : length (lent_pins s) ≡ s.state.capacity
  unfolding lent_pins
  lent_length = length-take-le s.state.capacity s.pins (omega (arith, g.valid.0.small, g.size))

  pub list_length : length (lent_list s) ≡ s.state.capacity
  unfolding lent_list
  list_length = length-take-le s.state.capacity (replicate 256 NONE) (omega (arith, g.valid.0.small, length-replicate 256 NONE))

  -- a pin is lent as it is
  pub lent_same : (x : ℕ) → x < s.state.capacity → unpinned (lent_pins s) x ≡ unpinned s.pins x
  unfolding lent_pins
  lent_same x h = ap (λ (p : ℕ). eqb p 0) (get_or-take s.state.capacity s.pins x 0 h)

-- each pinned slot clean, as resize tests it
pub all_clean : (left : ℕ) (t : State) (pins : List ℕ) (k : ℕ) → ((x : ℕ) → k ≤ x → x < k + left → unpinned pins x ≡ false → is_clean (slot_at t x) ≡ true) → pins_clean left t pins k ≡ true
unfolding pins_clean
all_clean zero t pins k h = refl
all_clean (suc left) t pins k h =
    let rest : pins_clean left t pins (k + 1) ≡ true = all_clean left t pins (k + 1) (λ x a b e. h x (omega arith) (omega arith) e) in
    elim (is (unpinned pins k)) [
      | yes! e ↦ rw (e, rest)
      | no! e ↦ rw (e, h k (omega arith) (omega arith) e, rest)
    ]

-- ── no pins ──
pub no_pins_lem : (t : State) (places : List (Maybe LoadToken)) → Valid t → GivenTokens t places → InOrder t no_pins places
unfolding no_pins
no_pins_lem t places w given =
    let free : (x : ℕ) → unpinned (replicate 256 0) x ≡ false → ⊥ = λ x e. eqb-false (get_or (replicate 256 0) x 0) 0 e (all_same 256 x 0) in
    record {
      valid = w;
      size = length-replicate {A = ℕ} 256 0;
      bit = λ x. omega (arith, all_same {A = ℕ} 256 x 0);
      low = λ x e. absurd (free x e);
      clean = λ x e. absurd (free x e);
      given = given;
    }

-- ── a pin set ──
-- on a clean slot, or taken off any
module _ (t : State) (pins : List ℕ) (places : List (Maybe LoadToken)) (g : InOrder t pins places) (x v : ℕ) (hx : x < t.capacity) (small : v ≤ 1) where
  there : x < length pins
  there = omega (arith, g.valid.0.small, g.size)

  pub pin_set : is_clean (slot_at t x) ≡ true → InOrder t (set pins x v) places
  pin_set c =
      record {
        valid = g.valid;
        size = length-set pins x v ∙ g.size;
        bit = λ y. elim (is (eqb y x)) [
          | yes! e ↦ rw (eqb-true y x e, get_or-set_same pins x v 0 there) small
          | no! e ↦ rw (get_or-set_other pins x y v 0 (eqb-false y x e)) (g.bit y)
        ];
        low = λ y p. elim (is (eqb y x)) [
          | yes! e ↦ rw (eqb-true y x e) hx
          | no! e ↦ g.low y (rw (get_or-set_other pins x y v 0 (eqb-false y x e)) at p)
        ];
        clean = λ y p. elim (is (eqb y x)) [
          | yes! e ↦ rw (eqb-true y x e) c
          | no! e ↦ g.clean y (rw (get_or-set_other pins x y v 0 (eqb-false y x e)) at p)
        ];
        given = g.given;
      }

pub pin_off : (t : State) (pins : List ℕ) (places : List (Maybe LoadToken)) → InOrder t pins places → (x : ℕ) → x < t.capacity → unpinned (set pins x 0) x ≡ true
pin_off t pins places g x hx = rw (get_or-set_same pins x 0 0 (omega (arith, g.valid.0.small, g.size)))

-- ── a token put in its place ──
-- an empty place is one with no token
unheld : (k : LoadToken) → empty_place ≡ holding k → ⊥
unheld k e = let z : ◌≡◌ {A = ℕ} 0 1 = cc in omega arith

pub no_tokens : (t : State) → GivenTokens t empty_places
unfolding empty_places
no_tokens t place k e = absurd (unheld k (sym (all_same 16 place empty_place) ∙ e))

pub token_put : (t : State) (pins : List ℕ) (places : List (Maybe LoadToken)) → InOrder t pins places → (place : ℕ) (k : LoadToken) → k.access_sequence ≤ t.next_access_sequence → InOrder t pins (set places place (holding k))
token_put t pins places g place k h =
    record {
      valid = g.valid;
      size = g.size;
      bit = g.bit;
      low = g.low;
      clean = g.clean;
      given = λ x m e. elim (is (eqb x place)) [
        | no! q ↦ g.given x m (sym (get_or-set_other places place x (holding k) empty_place (eqb-false x place q)) ∙ e)
        | yes! q ↦
            let here : get_or (set places place (holding k)) place empty_place ≡ holding m = rw (eqb-true x place q) at e in
            elim (is (ltb place (length places))) [
              | yes! r ↦
                  let same : holding k ≡ holding m = sym (get_or-set_same places place (holding k) empty_place (ltb-true place (length places) r)) ∙ here in
                  let w : k ≡ m = cc in
                  omega (arith, h, ap (λ (t : LoadToken). t.access_sequence) w)
              | no! r ↦ absurd (unheld m (sym (get_or-eq_default (set places place (holding k)) empty_place (omega (arith, ltb-false place (length places) r, length-set places place (holding k)))) ∙ here))
            ]
      ];
    }

-- ── a slot anew ──
-- its pin, if it has one, is on a clean slot still, and the last use number given is not less
pub slot_anew : (t u : State) (pins : List ℕ) (places : List (Maybe LoadToken)) {x nu ng nc nl : ℕ} (a : Slot) → InOrder t pins places → Valid u → Step t u x a nu ng nc nl → t.next_access_sequence ≤ nu → (unpinned pins x ≡ false → is_clean a ≡ true)
    → InOrder u pins places
slot_anew t u pins places {x} a g w p up c =
    let hx : x < length t.slots = omega (arith, p.low, g.valid.0.size, g.valid.0.small) in
    record {
      valid = w;
      size = g.size;
      bit = g.bit;
      low = λ y e. omega (arith, g.low y e, p.capacity);
      clean = λ y q. rw p.slots (elim (is (eqb y x)) [
        | yes! e ↦ let z : y ≡ x = eqb-true y x e in rw (z, get_or-set_same t.slots x a vacant_slot hx) (c (rw z at q))
        | no! e ↦ rw (get_or-set_other t.slots x y a vacant_slot (eqb-false y x e)) (g.clean y q)
      ]);
      given = λ y k e. omega (arith, g.given y k e, p.uses);
    }

-- ── the pins moved ──
-- "A pin goes with its key", to the slot that the list gives it
pub pins_moved_lem : (left : ℕ) (u : State) (places : List (Maybe LoadToken)) (old list : List ℕ) (k : ℕ) (pins : List ℕ) → InOrder u pins places → ((x : ℕ) → get_or old x 0 ≤ 1)
    → ((x : ℕ) → k ≤ x → x < k + left → unpinned old x ≡ false → (get_or list x NONE < u.capacity) × (is_clean (slot_at u (get_or list x NONE)) ≡ true)) → InOrder u (move_pins left old list k pins) places
unfolding move_pins
pins_moved_lem zero u places old list k pins g bit to = g
pins_moved_lem (suc left) u places old list k pins g bit to =
    let rest : (x : ℕ) → k + 1 ≤ x → x < k + 1 + left → unpinned old x ≡ false → (get_or list x NONE < u.capacity) × (is_clean (slot_at u (get_or list x NONE)) ≡ true) = λ x a b e. to x (omega arith) (omega arith) e in
    elim (is (unpinned old k)) [
      | yes! e ↦ rw e (pins_moved_lem left u places old list (k + 1) pins g bit rest)
      | no! e ↦
          let (low, clean) = to k (omega arith) (omega arith) e in
          rw e (pins_moved_lem left u places old list (k + 1) (set pins (get_or list k NONE) (get_or old k 0)) (pin_set u pins places g (get_or list k NONE) (get_or old k 0) low (bit k) clean) bit rest)
    ]
