-- SPDX-License-Identifier: Apache-2.0
-- `restore::restore_pinned` meets its contract. Assumes nothing.
use Rattle.std.proofs.Common.{sym, ◌∙◌}
use mathlib.Core.Logic.{inl, inr}
use native.Mathlib.Omega.{arith}
use Rattle.maintenance_restore.proofs.Cases.{from_none}
use Rattle.maintenance_restore.proofs.restore.restore_pinned.Goals as goal

pub returns : goal.returns
returns c =
    let none = from_none _ _ c.loop-entry.new (elim (c.in-None.ensures.steps) [ inl a ↦ inl a.1.0 | inr b ↦ inr b.1.0 ]) in
    record { value = sym none.0 ∙ c.loop-entry.invariant.0; tries = omega (arith, none.1, c.loop-entry.invariant.1) }
