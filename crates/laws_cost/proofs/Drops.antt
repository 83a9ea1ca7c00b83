-- SPDX-License-Identifier: Apache-2.0
-- On a valid table the keys dropped and the keys of the table that resize leaves are those that there were. Assumes nothing.
use Prim.Native.Nat.{ℕ, ◌+◌}
use native.Mathlib.Omega.{arith}
use mathlib.Core.Path.{◌≡◌, ap}
use mathlib.Core.List.{List}
use Rattle.state.specs.declared.State.{State}
use Rattle.state.specs.Slots.{is_clean}
use Rattle.maintenance_resize.specs.Answers.{Resizing}
use Rattle.maintenance_resize.specs.Resize.{resize}
use Rattle.maintenance_resize.specs.Cost.{restores_of, Costs, by_answer, cost}
use Rattle.laws_table.specs.Table.{how_many, Valid}
use Rattle.laws_maintenance.specs.Resize.{ResizeOutcome, refused!, unchanged!, busy!, remade! }
use Rattle.laws_maintenance.proofs.RemadeSlots.{remade_parts}
use Rattle.laws_maintenance.proofs.ResizeLaw.{resize_law}
use Rattle.laws_maintenance.proofs.CallsKeep.{resize_keeps_lem}
use Rattle.laws_cost.specs.Laws.{DropsOnValid}
use Rattle.laws_cost.proofs.Foretells.{foretells}

module _ (t : State) (w : Valid t) (asked : ℕ) (pins list : List ℕ) where
  -- the drops of the cost that is read off a resize
  abbrev drops : Resizing → ℕ
  drops r = (by_answer t r.list (restores_of t asked pins) r.answer).drops

  slots_parted : (r : Resizing) → ResizeOutcome t asked pins list r
      → drops r + how_many is_clean r.table.slots r.table.capacity ≡ how_many is_clean t.slots t.capacity
  slots_parted r (refused! n e ne n7) = rw e (omega arith)
  slots_parted r (unchanged! e h) = rw e (omega arith)
  slots_parted r (busy! e h) = rw e (omega arith)
  slots_parted r (remade! m n) = rw (m.answer) (remade_parts t pins r m w.1)

pub drops_on_valid : DropsOnValid
drops_on_valid t w asked pins list e =
    let r = resize t asked pins list in
    let told : (cost t asked pins).drops ≡ drops t w asked pins list r = ap (λ (k : Costs). k.drops) (foretells t asked pins list e) in
    let slots = slots_parted t w asked pins list r (resize_law t w.0 w.1 asked pins list) in
    let kept = resize_keeps_lem t w asked pins list in
    record { counts = omega (arith, told, slots, w.0.clean, kept.valid.0.clean); slots = omega (arith, told, slots) }
