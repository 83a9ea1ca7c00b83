-- SPDX-License-Identifier: Apache-2.0
-- Pin bytes: how many are pinned from a slot on, the capacity raised for them, and that pins are on clean slots. Assumes nothing.
use Rattle.std.proofs.Common.{if◌then◌else◌}
use Prim.Native.Nat.{ℕ, zero, suc, ◌+◌, ◌<◌, ◌≤◌, max}
use native.Mathlib.Omega.{arith}
use native.Mathlib.Numerals.{add-one}
use mathlib.Core.Path.{◌≡◌, ◌∙◌}
use mathlib.Core.Bool.{true, false, ◌||◌}
use mathlib.Core.List.{List, [], ◌∷◌}
use lib.Dec.{eqb}
use lib.ListN.{length, drop}
use lib.Seq.{drop-cons}
use borrow.Author.Tests.{eqb-true, eqb-false}
use Rattle.basics.specs.Numbers.{power_over}
use Rattle.basics.proofs.Tests.{yes!, no!, is, and_left, and_right}
use Rattle.eviction.specs.Victim.{unpinned}
use Rattle.state.specs.declared.State.{State}
use Rattle.state.specs.Slots.{slot_at, is_clean}
use Rattle.maintenance_restore.specs.Pins.{pin_count, pins_clean, raised}
use Rattle.laws_maintenance.proofs.Powers.{power_over_lem, power_pos, power_small}

-- ── how many ──
pub pin_most : (pins : List ℕ) → pin_count pins ≤ length pins
unfolding pin_count
pin_most [] = omega arith
pin_most (p ∷ ps) = elim (is (eqb p 0)) [ yes! e ↦ rw e (omega (arith, pin_most ps)) | no! e ↦ rw e (omega (arith, pin_most ps)) ]

pin_count_lem : (pins : List ℕ) (k : ℕ) → k < length pins → pin_count (drop k pins) ≡ (if unpinned pins k then pin_count (drop (k + 1) pins) else pin_count (drop (k + 1) pins) + 1)
unfolding pin_count
pin_count_lem pins k h = rw (add-one k, drop-cons pins k 0 h)

pub pin_skip : (pins : List ℕ) (k : ℕ) → k < length pins → unpinned pins k ≡ true → pin_count (drop k pins) ≡ pin_count (drop (k + 1) pins)
pin_skip pins k h e = pin_count_lem pins k h ∙ rw e

pub pin_here : (pins : List ℕ) (k : ℕ) → k < length pins → unpinned pins k ≡ false → pin_count (drop k pins) ≡ pin_count (drop (k + 1) pins) + 1
pin_here pins k h e = pin_count_lem pins k h ∙ rw e

-- ── the capacity raised ──
-- "the least power of two not below the number of pinned slots (at least 1)"
abbrev pub for_pins : List ℕ → ℕ
for_pins pins = power_over (max (pin_count pins) 1)

module _ (asked : ℕ) (pins : List ℕ) where
  pub raised_pins : for_pins pins ≤ raised asked pins
  unfolding raised
  raised_pins = omega arith

  pub raised_pos : length pins ≤ 256 → 0 < raised asked pins
  raised_pos h = omega (arith, raised_pins, power_pos (max (pin_count pins) 1) (omega (arith, pin_most pins)))

  pub raised_small : length pins ≤ 256 → asked ≤ 256 → raised asked pins ≤ 256
  unfolding raised
  raised_small h ha = omega (arith, power_small (max (pin_count pins) 1) (omega (arith, pin_most pins)))

-- a capacity for which it was raised has a slot for each pinned key
pub pins_fit : (pins : List ℕ) (c : ℕ) → length pins ≤ 256 → for_pins pins ≤ c → pin_count pins ≤ c
pins_fit pins c h big = omega (arith, pin_most pins, power_over_lem (max (pin_count pins) 1) (omega (arith, pin_most pins)))

-- ── pins on clean slots ──
pinned_clean : (left : ℕ) (t : State) (pins : List ℕ) (k : ℕ) → pins_clean left t pins k ≡ true → (s : ℕ) → k ≤ s → s < k + left → unpinned pins s ≡ false → is_clean (slot_at t s) ≡ true
unfolding pins_clean
pinned_clean zero t pins k e s hk hs p = absurd (omega arith)
pinned_clean (suc left) t pins k e s hk hs p =
    let here : (unpinned pins k || is_clean (slot_at t k)) ≡ true = and_left (unpinned pins k || is_clean (slot_at t k)) (pins_clean left t pins (k + 1)) e in
    elim (is (eqb s k)) [
      | yes! q ↦ let z : s ≡ k = eqb-true s k q in rw z (rw (rw z at p) at here)
      | no! q ↦ pinned_clean left t pins (k + 1) (and_right (unpinned pins k || is_clean (slot_at t k)) (pins_clean left t pins (k + 1)) e) s (omega (arith, eqb-false s k q)) (omega arith) p
    ]

-- each pinned slot is clean
abbrev pub OnClean : State → List ℕ → Type 0
OnClean t pins = (s : ℕ) → s < t.capacity → unpinned pins s ≡ false → is_clean (slot_at t s) ≡ true

pub pins_clean_lem : (t : State) (pins : List ℕ) → pins_clean t.capacity t pins 0 ≡ true → OnClean t pins
pins_clean_lem t pins e s hs p = pinned_clean t.capacity t pins 0 e s (omega arith) (omega arith) p
