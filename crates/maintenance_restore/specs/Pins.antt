-- SPDX-License-Identifier: Apache-2.0
-- "pins are a lent byte for each slot, 0 unpinned, other pinned."
use Rattle.std.specs.Prelude.{ℕ, zero, suc, ◌+◌, max, Bool, true, ◌&&◌, ◌||◌, List, [], ◌∷◌, eqb, if◌then◌else◌}
use Rattle.basics.specs.Numbers.{power_over}
use Rattle.state.specs.declared.State.{State}
use Rattle.state.specs.Slots.{slot_at, is_clean}
use Rattle.eviction.specs.Victim.{unpinned}

-- "the number of pinned slots"
unfoldable pub pin_count : List ℕ → ℕ
pin_count [] = 0
pin_count (p ∷ ps) = if eqb p 0 then pin_count ps else pin_count ps + 1

-- "resize has a pin on one" that is not clean: whether none of the slots left, from `slot` on, is such
unfoldable pub pins_clean : ℕ → State → List ℕ → ℕ → Bool
pins_clean zero t pins slot = true
pins_clean (suc left) t pins slot = (unpinned pins slot || is_clean (slot_at t slot)) && pins_clean left t pins (slot + 1)

-- "The asked capacity is raised to the least power of two not below the number of pinned slots (at least 1)"
unfoldable pub raised : ℕ → List ℕ → ℕ
raised asked pins = max asked (power_over (max (pin_count pins) 1))
