-- SPDX-License-Identifier: Apache-2.0
-- The cost told is that of a resize through an open gate whose generation is not spent. Assumes nothing.
use mathlib.Core.Path.{sym, ap, ◌∙◌}
use Rattle.maintenance_resize.specs.Answers.{Resizing}
use Rattle.maintenance_resize.specs.Cost.{restores_of, by_answer}
use Rattle.laws_gate.proofs.Resize.{open_is_plain}
use Rattle.laws_cost.specs.Laws.{ForetellsThroughGate}
use Rattle.laws_cost.proofs.Foretells.{foretells}

pub foretells_through_gate : ForetellsThroughGate
foretells_through_gate t g asked pins list s n e =
    foretells t asked pins list e
    ∙ ap (λ (r : Resizing). by_answer t r.list (restores_of t asked pins) r.answer) (sym (open_is_plain t g asked pins list s n))
