-- SPDX-License-Identifier: Apache-2.0
-- The pins as they move. Assumes nothing.
use Prim.Native.Nat.{ℕ, zero, suc, ◌+◌, ◌-◌, ◌≤◌, ◌<◌}
use native.Mathlib.Omega.{arith}
use mathlib.Core.Path.{◌≡◌, refl, sym, ◌∙◌}
use mathlib.Core.List.{List}
use lib.ListN.{length, get_or, set}
use borrow.Author.Tests.{eq-eqb, ne_eqb}
use Rattle.basics.specs.Numbers.{NONE}
use Rattle.sheet_steps.specs.Steps.{move_pins}

-- the pins' way at its end, past a slot with no pin, and past one with a pin
pub move_end : (n : ℕ) (old list : List ℕ) (slot : ℕ) (pins : List ℕ) → n ≤ 0 → move_pins n old list slot pins ≡ pins
unfolding move_pins
move_end zero old list slot pins l = refl
move_end (suc n) old list slot pins l = absurd (omega arith)

pub move_free : (n : ℕ) (old list : List ℕ) (slot : ℕ) (pins : List ℕ) → 0 < n → get_or old slot 0 ≡ 0
    → move_pins n old list slot pins ≡ move_pins (n - 1) old list (slot + 1) pins
unfolding move_pins
move_free zero old list slot pins l e = absurd (omega arith)
move_free (suc n) old list slot pins l e = let n_is : suc n - 1 ≡ n = omega arith in rw (eq-eqb _ _ e, n_is)

pub move_pinned : (n : ℕ) (old list : List ℕ) (slot : ℕ) (pins : List ℕ) → 0 < n → (get_or old slot 0 ≡ 0 → ⊥)
    → move_pins n old list slot pins ≡ move_pins (n - 1) old list (slot + 1) (set pins (get_or list slot NONE) (get_or old slot 0))
unfolding move_pins
move_pinned zero old list slot pins l e = absurd (omega arith)
move_pinned (suc n) old list slot pins l e = let n_is : suc n - 1 ≡ n = omega arith in rw (ne_eqb _ _ e, n_is)

-- the same by the place at which the code is: past both lists, or at a pair of them
pub pair_end : (old list : List ℕ) (at : ℕ) (pins : List ℕ) → length list ≤ at → move_pins (length list - at) old list at pins ≡ pins
pair_end old list at pins h = move_end (length list - at) old list at pins (omega arith)

module _ (old list : List ℕ) (at next slot pin : ℕ) (pins : List ℕ) (one : next ≡ at + 1) (h : at < length list) (e : pin ≡ get_or old at 0) where
  less : length list - next ≡ length list - at - 1
  less = omega arith

  pub pair_free : pin ≡ 0 → move_pins (length list - next) old list next pins ≡ move_pins (length list - at) old list at pins
  pair_free z = rw (less, one) (sym (move_free (length list - at) old list at pins (omega arith) (sym e ∙ z)))

  pub pair_pinned : (pin ≡ 0 → ⊥) → slot ≡ get_or list at NONE
      → move_pins (length list - next) old list next (set pins slot pin) ≡ move_pins (length list - at) old list at pins
  pair_pinned z k = rw (less, one, e, k) (sym (move_pinned (length list - at) old list at pins (omega arith) (λ q. z (e ∙ q))))
