-- SPDX-License-Identifier: Apache-2.0
-- `restore::candidate` meets its contract. Assumes nothing.
use Rattle.std.proofs.Common.{rules}
use native.Mathlib.Omega.{arith}
use Rattle.maintenance_restore.proofs.Cases.{tries_stops, tries_fits}
use Rattle.maintenance_restore.proofs.restore.candidate.Goals as goal

pub returns-in_err-restore_pinned-clause-tries : goal.returns-in_err-restore_pinned-clause-tries
returns-in_err-restore_pinned-clause-tries c =
    let stops = rw c.fresh-new.ensures at c.in_err-restore_pinned.ensures.value in
    let tried = rw c.fresh-new.ensures at c.in_err-restore_pinned.ensures.tries in
    omega (arith, tries_stops 9 c.loop.counter c.args.old.now c.args.pins.now c.args.shrinking c.loop.size (search rules) stops, tried, c.loop.invariant.1)

pub returns-then-branch-clause-tries : goal.returns-then-branch-clause-tries
returns-then-branch-clause-tries c =
    let fits = rw (c.fresh-new.ensures, c.if-branch.true) at c.in_ok-restore_pinned.ensures.value in
    let tried = rw c.fresh-new.ensures at c.in_ok-restore_pinned.ensures.tries in
    omega (arith, tries_fits 9 c.loop.counter c.args.old.now c.args.pins.now c.args.shrinking c.loop.size (search rules) fits, tried, c.loop.invariant.1)
