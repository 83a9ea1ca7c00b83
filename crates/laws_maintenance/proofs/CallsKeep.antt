-- SPDX-License-Identifier: Apache-2.0
-- Resize and reclaim keep a table valid, refused or not, and neither gives 10. Assumes nothing.
use Prim.Native.Nat.{ℕ}
use native.Mathlib.Omega.{arith}
use mathlib.Core.Path.{◌≡◌, refl, sym, ap, ◌∙◌}
use mathlib.Core.List.{List}
use Rattle.basics.specs.Try.{Try, ok, refuse}
use Rattle.basics.specs.Refusals.{STOP}
use Rattle.state.specs.declared.State.{State}
use Rattle.maintenance_resize.specs.Answers.{Resizing}
use Rattle.maintenance_resize.specs.Resize.{resize}
use Rattle.maintenance_reclaim.specs.Reclaim.{reclaim}
use Rattle.laws_table.specs.Table.{Dated, Valid}
use Rattle.laws_maintenance.specs.Remade.{Remade}
use Rattle.laws_maintenance.specs.Resize as resizes
use Rattle.laws_maintenance.specs.Resize.{ResizeKept}
use Rattle.laws_maintenance.specs.Reclaim as reclaims
use Rattle.laws_maintenance.specs.Reclaim.{ReclaimKept}
use Rattle.laws_maintenance.proofs.ResizeLaw.{resize_law}
use Rattle.laws_maintenance.proofs.ReclaimLaw.{reclaim_law}
use Rattle.laws_maintenance.proofs.ReclaimedSlots.{removals_valid}

-- ── answers ──
abbrev pub number : {A : Type 0} → Try A → ℕ
number (ok a) = 0
number (refuse n) = n

pub runs : {A : Type 0} {r s : Try A} → r ≡ s → (number s ≡ STOP → ⊥) → r ≡ refuse STOP → ⊥
runs e ne q = ne (ap number (sym e ∙ q))

-- ── resize ──
-- the keys of a remade table have their last uses, so none is later than the last number given
dated : (t : State) (pins : List ℕ) (r : Resizing) → Remade t pins r → Dated t.slots t.capacity t.next_access_sequence → Dated r.table.slots r.table.capacity r.table.next_access_sequence
dated t pins r m d x hx c =
    let s = m.sources x hx c in
    omega (arith, s.last, m.uses, d s.slot s.low s.clean)

pub resize_keeps_lem : (t : State) → Valid t → (asked : ℕ) (pins list : List ℕ) → ResizeKept (resize t asked pins list)
resize_keeps_lem t w asked pins list =
    elim (resize_law t w.0 w.1 asked pins list) [
      | resizes.refused! n e ne n7 ↦ rw e (record { valid = w; runs = runs refl ne })
      | resizes.unchanged! e h ↦ rw e (record { valid = w; runs = runs refl (omega arith) })
      | resizes.busy! e h ↦ rw e (record { valid = w; runs = runs refl (omega arith) })
      | resizes.remade! m c ↦ record { valid = (m.calm.inv, m.calm.distinct, dated t pins (resize t asked pins list) m w.2); runs = runs m.answer (omega arith) }
    ]

-- ── reclaim ──
pub reclaim_keeps : (t : State) → Valid t → (limit : ℕ) (pins : List ℕ) → ReclaimKept (reclaim t limit pins)
reclaim_keeps t w limit pins =
    elim (reclaim_law t w.0 limit pins) [
      | reclaims.refused! n e ↦ rw e (record { valid = w; runs = runs refl (omega arith) })
      | reclaims.reclaimed! u xs e rs end ↦ rw e (record { valid = removals_valid w rs; runs = runs refl (omega arith) })
    ]
