-- SPDX-License-Identifier: Apache-2.0
-- The claim fails of every machine of specs/Cheats.antt, each at a list of calls. Assumes nothing.
use Prim.Native.Nat.{ℕ}
use native.Mathlib.Omega.{arith}
use mathlib.Core.Path.{◌≡◌, refl, ap}
use mathlib.Core.Bool.{true}
use mathlib.Core.List.{List, [], ◌∷◌}
use Rattle.basics.specs.Counts.{bit}
use Rattle.ledger.specs.Calls as Plain
use Rattle.ledger.proofs.Samples.Words.{key, word, word_fine}
use Rattle.gate_ledger.specs.Calls.{begin_pause, begin_dirty, Call, call, turn, start, log}
use Rattle.gate_ledger.specs.Ledger.{begin}
use Rattle.gate_ledger.specs.Claim.{Demand3Gated}
use Rattle.gate_ledger.specs.Opened.{opened}
use Rattle.gate_ledger.specs.Cheats.{no_gate, never_waits, dirty_stops, never_marks, clears_later, refuses_turns}
use Rattle.gate_ledger.proofs.Samples.{none, meets_all, fair_all}
use Rattle.gate_ledger.proofs.LaterBusy.{later}

-- paused, an access for an absent key must be CapacityBusy
pub no_no_gate : Demand3Gated no_gate → ⊥
unfolding opened
no_no_gate d =
    let kept = d 1 (omega arith) (omega arith) (turn begin_pause ∷ []) (tt, tt) in
    let given = kept.next (call (Plain.access (key 1) true none)) (record { token = tt; uses = omega arith; generations = omega arith }) in
    let z : ◌≡◌ {A = ℕ} 2 4 = ap word given in omega arith

-- paused, no table may be remade
pub no_never_waits : Demand3Gated never_waits → ⊥
unfolding opened
no_never_waits d = (d 1 (omega arith) (omega arith) (turn begin_pause ∷ []) (tt, tt)).waits 2 none (7 ∷ [])

-- beside a dirty page a load must begin
pub no_dirty_stops : Demand3Gated dirty_stops → ⊥
unfolding opened
no_dirty_stops d =
    let kept = d 1 (omega arith) (omega arith) (turn begin_dirty ∷ []) (tt, tt) in
    let (slot, low, vacant, e) = kept.next (call (Plain.access (key 1) true none)) (record { token = tt; uses = omega arith; generations = omega arith }) in
    let z : ◌≡◌ {A = ℕ} 4 2 = ap word e in omega arith

-- a resize over a load must mark the gate
pub no_never_marks : Demand3Gated never_marks → ⊥
unfolding opened meets_all
no_never_marks d =
    let cs : List Call = call (Plain.access (key 1) true none) ∷ call (Plain.resize 2 none (7 ∷ [])) ∷ [] in
    let kept = d 1 (omega arith) (omega arith) cs (fair_all (begin 1) (log never_marks (start 1) cs) refl) in
    let z : ◌≡◌ {A = ℕ} 0 1 = ap bit kept.told.pending in omega arith

-- a later Busy must leave the mark
pub no_clears_later : Demand3Gated clears_later → ⊥
unfolding opened meets_all later
no_clears_later d =
    let kept = d 129 (omega arith) (omega arith) later (fair_all (begin 129) (log clears_later (start 129) later) refl) in
    let z : ◌≡◌ {A = ℕ} 0 1 = ap bit kept.told.pending in omega arith

-- a pause must begin
pub no_refuses_turns : Demand3Gated refuses_turns → ⊥
unfolding opened
no_refuses_turns d =
    let kept = d 1 (omega arith) (omega arith) [] tt in
    let z : ◌≡◌ {A = ℕ} 1 0 = ap word_fine (kept.next (turn begin_pause) tt) in omega arith
