-- SPDX-License-Identifier: Apache-2.0
-- `candidate` tries one capacity only, of any table, made up or not: a chain of 64 refuses one of at least 65 pinned keys, for which the capacity
-- was raised to 128 or more, and half of 256 is no more. So its doubling is not met. Assumes nothing.
use Prim.Native.Nat.{ℕ, suc, ◌+◌, ◌/◌, ◌<◌, ◌≤◌, max}
use native.Mathlib.Omega.{arith}
use mathlib.Core.Path.{◌≡◌, ◌∙◌}
use mathlib.Core.Bool.{Bool, false}
use Rattle.std.proofs.Math.Bool.{and-false}
use mathlib.Core.List.{List}
use lib.ListN.{length}
use borrow.Author.Tests.{le-ltb}
use Rattle.eviction.specs.Victim.{unpinned}
use Rattle.state.specs.declared.State.{State}
use Rattle.state.specs.Slots.{slot_at}
use Rattle.state.specs.Fresh.{fresh}
use Rattle.maintenance_restore.specs.Pins.{pin_count}
use Rattle.maintenance_restore.specs.Restore.{restore, restore_pinned, candidate}
use Rattle.laws_maintenance.proofs.Powers.{power_large}
use Rattle.laws_maintenance.proofs.PinBytes.{pin_most, for_pins, pins_fit}
use Rattle.laws_maintenance.proofs.CalmTables.{fresh_calm, fresh_capacity, fresh_none}
use Rattle.laws_maintenance.proofs.Restores.{full!, no_slot!, restored!, restored}
use Rattle.laws_maintenance.proofs.PinnedKeys.{Restoring, none!, some!, pinned_from, Counted, counted_skip, counted_more, counted_slot, counted_many}

-- a fresh table has none of the pinned keys
pub counted_fresh : (pins : List ℕ) (c : ℕ) → 0 < c → c ≤ 256 → pin_count pins ≤ c → Counted pins 0 (fresh c)
counted_fresh pins c pos small fits =
    let w = fresh_calm c pos small in
    record { inv = w.inv; quiet = w.quiet; count = omega (arith, fresh_none c); fits = omega (arith, fresh_capacity c) }

module _ (t : State) (pins : List ℕ) (small : t.capacity ≤ 256) (len : length pins ≡ t.capacity) where
  -- a key is restored, or 65 are pinned
  counted_take : (k : ℕ) (n : State) → k < t.capacity → unpinned pins k ≡ false → Counted pins k n → Restoring (65 ≤ pin_count pins) (Counted pins (k + 1)) (restore n (slot_at t k).key (slot_at t k).last_access)
  counted_take k n hk e w =
      let hk' : k < length pins = omega arith in
      elim (restored n w.inv (slot_at t k).key (slot_at t k).last_access) [
        | full! h z ↦ none! (counted_many w hk' e (slot_at t k).key h) z
        | no_slot! h z ↦ absurd (counted_slot w hk' e h)
        | restored! x free u z p ↦ some! u (counted_more w hk' e p.inv (p.loading ∙ w.quiet) p.clean p.capacity) z
      ]

  pub tried_once : (shrinking : Bool) (c left : ℕ) → 0 < c → c ≤ 256 → for_pins pins ≤ c → candidate (suc left) t pins shrinking c ≡ restore_pinned t.capacity t pins 0 (fresh c)
  unfolding candidate
  tried_once shrinking c left pos hc big =
      elim (pinned_from t pins t.capacity (65 ≤ pin_count pins) (Counted pins) (λ k n hk e w. counted_skip w (omega arith) e) counted_take t.capacity 0 (fresh c) (omega arith) (counted_fresh pins c pos hc (pins_fit pins c (omega arith) big))) [
        | some! n w e ↦ rw e
        | none! many e ↦ rw (e, le-ltb c (t.capacity / 2) (omega (arith, power_large (max (pin_count pins) 1) (omega arith) (omega (arith, pin_most pins)))), and-false shrinking)
      ]
