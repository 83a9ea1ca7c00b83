-- SPDX-License-Identifier: Apache-2.0
-- `sheet_steps::move_pins` meets its contract: what is left to move, from the pins moved so far, is what there was to move. Assumes nothing.
use Rattle.std.proofs.Common.{◌≡◌, ◌-◌, length}
use Rattle.sheet_steps.specs.Standing.{no_pins}
use Rattle.sheet_steps.specs.Steps.{move_pins}
use Rattle.sheet_steps.proofs.move_pins.Given as goal

abbrev pub invariant-loop-slot : goal.invariant-loop-slot
invariant-loop-slot l = move_pins (length l.list - length l.yielded) l.old l.list (length l.yielded) l.pins ≡ move_pins (length l.list) l.old l.list 0 no_pins
