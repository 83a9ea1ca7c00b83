-- SPDX-License-Identifier: Apache-2.0
-- `sheet_steps::move_pins` meets its contract: a pair that the zip gives is of one place in both lists. Assumes nothing.
use Rattle.std.proofs.Common.{rules, ◌≡◌, ◌+◌, ◌∷◌, ◌++◌, [], length, length-append, ◌∙◌}
use Rattle.std.proofs.lemmas.Slice.Zip.{zip_turn}
use Rattle.basics.specs.Numbers.{NONE}
use Rattle.sheet_steps.proofs.Cases.{pair_free, pair_pinned}
use Rattle.sheet_steps.proofs.move_pins.Goals as goal

pub loop-slot-preserved-then-pin-ne0 : goal.loop-slot-preserved-then-pin-ne0
loop-slot-preserved-then-pin-ne0 c =
    let here = c.loop-slot in
    let turn = zip_turn c.args.list.now c.args.old.now here.yielded c.into_iter-slot-iterator.result _ c.next.new.self _ (search rules) (search rules) here.yielded_by _ c.in-Some.is c.next.ensures.steps in
    let one : length (here.yielded ++ (c.in-Some.slot, c.in-Some.pin) ∷ []) ≡ length here.yielded + 1 = simp length-append in
    rw (c.pin_to.ensures, c.from.ensures)
    (pair_pinned c.args.old.now c.args.list.now (length here.yielded) _ c.in-Some.slot.now c.in-Some.pin.now here.pins one turn.0 (turn.3 0) c.if-pin-ne0.true (turn.2 NONE))
    ∙ here.invariant

pub loop-slot-preserved : goal.loop-slot-preserved
loop-slot-preserved c =
    let here = c.loop-slot in
    let turn = zip_turn c.args.list.now c.args.old.now here.yielded c.into_iter-slot-iterator.result _ c.next.new.self _ (search rules) (search rules) here.yielded_by _ c.in-Some.is c.next.ensures.steps in
    let one : length (here.yielded ++ (c.in-Some.slot, c.in-Some.pin) ∷ []) ≡ length here.yielded + 1 = simp length-append in
    pair_free c.args.old.now c.args.list.now (length here.yielded) _ c.in-Some.slot.now c.in-Some.pin.now here.pins one turn.0 (turn.3 0) c.if-pin-ne0.false
    ∙ here.invariant
