-- SPDX-License-Identifier: Apache-2.0
-- `remake::remake` meets its contract. Assumes nothing.
use Rattle.std.proofs.Common.{rules}
use Rattle.maintenance_resize.proofs.Resizes.{remake_undropped, remake_unfilled, remaking_tries, remake_unmoved, remake_done}
use Rattle.maintenance_resize.proofs.remake.remake.Goals as goal

pub returns-in_err-drop_oldest : goal.returns-in_err-drop_oldest
returns-in_err-drop_oldest c = let e = remake_undropped _ _ c.requires.0.0 _ c.in_ok-leave_pinned.ensures.value c.in_err-drop_oldest.ensures.value in search rules

pub returns-in_err-restore_rest : goal.returns-in_err-restore_rest
returns-in_err-restore_rest c =
    let e = remake_unfilled _ _ c.requires.0.0 _ c.in_ok-leave_pinned.ensures.value c.in_ok-drop_oldest.ensures.value
    c.in_ok-drop_oldest.ensures.size c.in_ok-leave_pinned.ensures.size c.in_err-restore_rest.ensures.value in
    search rules

pub returns-in_err-move_rest : goal.returns-in_err-move_rest
returns-in_err-move_rest c =
    let e = remake_unmoved _ _ c.requires.0.0 _ c.in_ok-leave_pinned.ensures.value c.in_ok-drop_oldest.ensures.value
    c.in_ok-drop_oldest.ensures.size c.in_ok-leave_pinned.ensures.size c.in_ok-restore_rest.ensures.value c.in_err-move_rest.ensures in
    search rules

pub returns-clause-value : goal.returns-clause-value
returns-clause-value c =
    let e = remake_done _ _ c.requires.0.0 _ c.in_ok-leave_pinned.ensures.value c.in_ok-drop_oldest.ensures.value
    c.in_ok-drop_oldest.ensures.size c.in_ok-leave_pinned.ensures.size c.in_ok-restore_rest.ensures.value _ c.in_ok-move_rest.ensures c.inherit.ensures in
    search rules

pub returns-clause-tries : goal.returns-clause-tries
returns-clause-tries c =
    remaking_tries _ _ c.requires.0.0 _ c.in_ok-leave_pinned.ensures.value c.in_ok-drop_oldest.ensures.value
    c.in_ok-drop_oldest.ensures.size c.in_ok-leave_pinned.ensures.size _ c.in_ok-restore_rest.ensures.tries
