-- SPDX-License-Identifier: Apache-2.0
-- Every list of the twelve calls leaves a valid table, and no call on it gives 10: the eight calls by the plain law, with loading allowed where the
-- gate admits it, and resize by the same or with table and answer of the gate. Assumes nothing.
use native.Mathlib.Omega.{arith}
use mathlib.Core.Path.{refl, sym, ◌∙◌}
use mathlib.Core.Bool.{false≢true}
use mathlib.Core.List.{List, [], ◌∷◌}
use Prim.Native.Nat.{ℕ}
use lib.Dec.{ltb, eqb}
use Rattle.basics.specs.Numbers.{MAX}
use Rattle.basics.proofs.Tests.{yes!, no!, is}
use Rattle.state.specs.declared.State.{State}
use Rattle.laws_table.specs.Table.{Valid}
use Rattle.laws_table.proofs.TableParts.{sound_inv}
use Rattle.laws_table.proofs.FreshTable.{fresh_valid}
use Rattle.laws_maintenance.specs.Resize.{ResizeKept}
use Rattle.laws_maintenance.proofs.CallsKeep.{runs, resize_keeps_lem}
use Rattle.gate.specs.declared.Gate.{Gate}
use Rattle.gate.specs.Gate as gates
use Rattle.passage.specs.Access.{access_through}
use Rattle.passage.specs.Resize.{resize_through}
use Rattle.ledger.specs.Calls as Plain
use Rattle.ledger.specs.Valid.{Goes}
use Rattle.ledger.proofs.StaysValid.{call_valid}
use Rattle.gate_ledger.specs.Calls.{Turn, begin_pause, end_pause, begin_dirty, end_dirty, Call, call, turn}
use Rattle.gate_ledger.specs.Calls.{rules, turn_gate, Standing, start, fine, event, after, run}
use Rattle.gate_ledger.specs.Valid.{Runs, StaysValidGated}
use Rattle.gate_ledger.proofs.Through.{stays!, resizes!, through_law}

through_keeps : (t : State) → Valid t → (g : Gate) (asked : ℕ) (pins list : List ℕ) → ResizeKept (resize_through t g asked pins list).resizing
through_keeps t v g asked pins list =
    elim (through_law t g asked pins list) [
      | stays! a e k z ↦ rw e (record { valid = v; runs = λ s. false≢true (sym (z s) ∙ sound_inv t v.0) })
      | resizes! e ↦ rw e (resize_keeps_lem t v asked pins list)
    ]

turn_runs : (g : Gate) (k : Turn) → Goes (fine (turn_gate g k))
unfolding turn_gate gates.begin_pause gates.end_pause gates.begin_dirty gates.end_dirty gates.one_more gates.one_less
turn_runs g begin_pause = elim (is (eqb g.pauses MAX)) [ yes! e ↦ rw e (runs refl (omega arith)) | no! e ↦ rw e (runs refl (omega arith)) ]
turn_runs g end_pause = elim (is (ltb 0 g.pauses)) [ yes! e ↦ rw e (runs refl (omega arith)) | no! e ↦ rw e (runs refl (omega arith)) ]
turn_runs g begin_dirty = elim (is (eqb g.dirty MAX)) [ yes! e ↦ rw e (runs refl (omega arith)) | no! e ↦ rw e (runs refl (omega arith)) ]
turn_runs g end_dirty = elim (is (ltb 0 g.dirty)) [ yes! e ↦ rw e (runs refl (omega arith)) | no! e ↦ rw e (runs refl (omega arith)) ]

-- ── one call ──
pub gated_valid : (s : Standing) → Valid s.table → (c : Call) → Valid (after rules s c).table × Runs (event rules s c)
unfolding event after access_through Plain.event Plain.after
gated_valid s v (call (Plain.access key allow pins)) = call_valid s.table v (Plain.access key (gates.admits s.gate allow) pins)
gated_valid s v (call (Plain.publish k)) = call_valid s.table v (Plain.publish k)
gated_valid s v (call (Plain.abort k)) = call_valid s.table v (Plain.abort k)
gated_valid s v (call (Plain.lookup key)) = call_valid s.table v (Plain.lookup key)
gated_valid s v (call (Plain.remove slot)) = call_valid s.table v (Plain.remove slot)
gated_valid s v (call (Plain.detach slot)) = call_valid s.table v (Plain.detach slot)
gated_valid s v (call (Plain.resize asked pins list)) = let k = through_keeps s.table v s.gate asked pins list in (k.valid, k.runs)
gated_valid s v (call (Plain.reclaim limit pins)) = call_valid s.table v (Plain.reclaim limit pins)
gated_valid s v (turn k) = (v, turn_runs s.gate k)

-- ── a list of calls ──
run_valid : (s : Standing) → Valid s.table → (cs : List Call) → Valid (run rules s cs).table
unfolding run
run_valid s v [] = v
run_valid s v (c ∷ cs) = run_valid (after rules s c) (gated_valid s v c).0 cs

pub stays_valid_gated : StaysValidGated rules
stays_valid_gated c hp hs cs =
    let v = run_valid (start c) (fresh_valid c hp hs) cs in (v, λ next. (gated_valid (run rules (start c) cs) v next).1)
