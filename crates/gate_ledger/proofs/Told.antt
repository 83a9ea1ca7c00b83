-- SPDX-License-Identifier: Apache-2.0
-- What the ledger tells of the gate: turns, loading allowed, loads, pauses and dirty pages; and the tests of resize's input. Assumes nothing.
use Prim.Native.Nat.{ℕ, ◌+◌, ◌^◌}
use native.Mathlib.Omega.{arith}
use mathlib.Core.Path.{◌≡◌, refl, sym, ap, ◌∙◌}
use mathlib.Core.Bool.{Bool, true, false, not, ◌&&◌, false≢true}
use mathlib.Core.List.{List, [], ◌∷◌}
use lib.Dec.{ltb, leb, eqb}
use borrow.Author.Tests.{lt-ltb, le-ltb, not-true}
use Rattle.basics.specs.Try.{Try, ok, refuse}
use Rattle.basics.specs.Refusals.{INVALID, ALLOCATION, STOP, PINS, LIST, EXHAUSTED}
use Rattle.basics.specs.Numbers.{MAX}
use Rattle.basics.specs.Lists.{down}
use Rattle.basics.specs.Capacity.{need_capacity}
use Rattle.basics.specs.Answers.{Fine, done}
use Rattle.basics.specs.Members.{In, here, there}
use Rattle.basics.specs.Counts.{bit, count}
use Rattle.basics.proofs.Tests.{yes!, no!, is}
use Rattle.basics.proofs.Members.{down_in}
use Rattle.state.specs.declared.State.{State}
use Rattle.state.specs.Slots.{slot_at, is_loading}
use Rattle.state.specs.Fresh.{sound}
use Rattle.laws_table.proofs.StepParts.{loading_pos}
use Rattle.gate.specs.declared.Gate.{Gate}
use Rattle.gate.specs.Gate as gates
use Rattle.passage.specs.Resize.{need_input, need_input_of}
use Rattle.ledger.specs.Ledger as plain
use Rattle.ledger.specs.Ledger.{Held}
use Rattle.ledger.proofs.Keys.Lists.{any, nil, any_is}
use Rattle.ledger.proofs.Relation.Agree.{Agree, as_clean, as_loading, below, shows, loading_in}
use Rattle.gate_ledger.specs.Calls.{Turn, begin_pause, end_pause, begin_dirty, end_dirty, turn_gate, gate_or, fine}
use Rattle.gate_ledger.specs.Ledger.{Ledger, allows, stopped, loads, feed_turn}
use Rattle.gate_ledger.specs.Claim.{expect_turn, Told}

-- ── a turn of the gate ──
pub turn_told : (g : Gate) (l : Ledger) → Told g l → (k : Turn)
    → (fine (turn_gate g k) ≡ expect_turn l k) × Told (gate_or g (turn_gate g k)) (feed_turn l k (fine (turn_gate g k)))
unfolding turn_gate expect_turn feed_turn gates.begin_pause gates.end_pause gates.begin_dirty gates.end_dirty gates.one_more gates.one_less
turn_told g l w begin_pause =
    elim (is (eqb g.pauses MAX)) [
      | yes! e ↦ let q : eqb l.pauses MAX ≡ true = ap (λ (n : ℕ). eqb n MAX) (sym w.pauses) ∙ e in rw (e, q) (refl, w)
      | no! e ↦
          let q : eqb l.pauses MAX ≡ false = ap (λ (n : ℕ). eqb n MAX) (sym w.pauses) ∙ e in
          rw (e, q) (refl, record { pauses = ap (λ (n : ℕ). n + 1) w.pauses; dirty = w.dirty; pending = w.pending })
    ]
turn_told g l w end_pause =
    elim (is (ltb 0 g.pauses)) [
      | yes! e ↦
          let q : ltb 0 l.pauses ≡ true = ap (λ (n : ℕ). ltb 0 n) (sym w.pauses) ∙ e in
          rw (e, q) (refl, record { pauses = omega (arith, w.pauses); dirty = w.dirty; pending = w.pending })
      | no! e ↦ let q : ltb 0 l.pauses ≡ false = ap (λ (n : ℕ). ltb 0 n) (sym w.pauses) ∙ e in rw (e, q) (refl, w)
    ]
turn_told g l w begin_dirty =
    elim (is (eqb g.dirty MAX)) [
      | yes! e ↦ let q : eqb l.dirty MAX ≡ true = ap (λ (n : ℕ). eqb n MAX) (sym w.dirty) ∙ e in rw (e, q) (refl, w)
      | no! e ↦
          let q : eqb l.dirty MAX ≡ false = ap (λ (n : ℕ). eqb n MAX) (sym w.dirty) ∙ e in
          rw (e, q) (refl, record { pauses = w.pauses; dirty = ap (λ (n : ℕ). n + 1) w.dirty; pending = w.pending })
    ]
turn_told g l w end_dirty =
    elim (is (ltb 0 g.dirty)) [
      | yes! e ↦
          let q : ltb 0 l.dirty ≡ true = ap (λ (n : ℕ). ltb 0 n) (sym w.dirty) ∙ e in
          rw (e, q) (refl, record { pauses = w.pauses; dirty = omega (arith, w.dirty); pending = w.pending })
      | no! e ↦ let q : ltb 0 l.dirty ≡ false = ap (λ (n : ℕ). ltb 0 n) (sym w.dirty) ∙ e in rw (e, q) (refl, w)
    ]

-- a turn leaves the keys alone
pub turn_keys : {t : State} (l : Ledger) (k : Turn) (x : Try Fine) → Agree t l.keys → Agree t (feed_turn l k x).keys
unfolding feed_turn
turn_keys l begin_pause (ok done) a = a
turn_keys l end_pause (ok done) a = a
turn_keys l begin_dirty (ok done) a = a
turn_keys l end_dirty (ok done) a = a
turn_keys l begin_pause (refuse n) a = a
turn_keys l end_pause (refuse n) a = a
turn_keys l begin_dirty (refuse n) a = a
turn_keys l end_dirty (refuse n) a = a

-- ── access ──
pub admits_told : (g : Gate) (l : Ledger) → Told g l → (allow : Bool) → gates.admits g allow ≡ allows l allow
unfolding gates.admits allows
admits_told g l w allow = ap (λ (n : ℕ). allow && eqb n 0 && not g.pending) w.pauses ∙ ap (λ (b : Bool). allow && eqb l.pauses 0 && not b) w.pending

-- ── what the ledger tells of loads ──
count_none : (p : ℕ → Bool) (xs : List ℕ) → ((x : ℕ) → In x xs → p x ≡ false) → count p xs ≡ 0
count_none p [] h = refl
count_none p (x ∷ xs) h = let q : bit (p x) ≡ 0 = rw (h x here) in omega (arith, q, count_none p xs (λ y i. h y (there i)))

pub loads_told : (t : State) (l : plain.Ledger) → Agree t l → loads l ≡ ltb 0 t.loading
unfolding loads
loads_told t l a =
    elim (any_is (λ (h : Held). not h.clean) l.held) [
      | any q h i f ↦ elim (shows t l a h i) [
        | as_clean c e k u ↦ absurd (false≢true (sym (not-true h.clean f) ∙ c))
        | as_loading c e k y p g u z n ↦ q ∙ sym (lt-ltb 0 t.loading (loading_pos t a.inv h.slot (below t l a h i) e))
      ]
      | nil q n ↦
          let none : (x : ℕ) → In x (down t.capacity) → is_loading (slot_at t x) ≡ false = λ x i. elim (is (is_loading (slot_at t x))) [
            | no! e ↦ e
            | yes! e ↦ let (h, j, c, k) = loading_in t l a x (down_in t.capacity x i) e in absurd (false≢true (sym (n h j) ∙ rw c))
          ] in
          q ∙ sym (le-ltb 0 t.loading (omega (arith, a.inv.loading, count_none (λ (x : ℕ). is_loading (slot_at t x)) (down t.capacity) none)))
    ]

-- ── resize ──
pub stops_told : (g : Gate) (l : Ledger) → Told g l → stopped l ≡ gates.stops g
unfolding stopped gates.stops
stops_told g l w = ap (λ (n : ℕ). not (eqb n 0 && eqb l.dirty 0)) (sym w.pauses) ∙ ap (λ (n : ℕ). not (eqb g.pauses 0 && eqb n 0)) (sym w.dirty)

-- the tests of the input never give 7, and 10 only where the first test does
pub data Input (t : State) (r : Try Fine) : Type 0 where
  out! : (n : ℕ) → r ≡ refuse n → (n ≡ EXHAUSTED → ⊥) → (n ≡ STOP → sound t ≡ false) → Input t r
  in! : r ≡ ok done → Input t r

pub input_law : (t : State) (asked p q : ℕ) → Input t (need_input t asked p q)
unfolding need_input_of need_capacity
input_law t asked p q =
    elim (is (sound t)) [
      | no! e ↦ rw e (out! STOP refl (omega arith) (λ z. e))
      | yes! e ↦ elim (is (ltb 0 asked && leb asked (2 ^ 62))) [
        | no! f ↦ rw (e, f) (out! INVALID refl (omega arith) (λ z. absurd (omega arith)))
        | yes! f ↦ elim (is (leb asked 256)) [
          | no! g ↦ rw (e, f, g) (out! ALLOCATION refl (omega arith) (λ z. absurd (omega arith)))
          | yes! g ↦ elim (is (eqb p t.capacity)) [
            | no! h ↦ rw (e, f, g, h) (out! PINS refl (omega arith) (λ z. absurd (omega arith)))
            | yes! h ↦ elim (is (eqb q t.capacity)) [
              | no! i ↦ rw (e, f, g, h, i) (out! LIST refl (omega arith) (λ z. absurd (omega arith)))
              | yes! i ↦ rw (e, f, g, h, i) (in! refl)
            ]
          ]
        ]
      ]
    ]
