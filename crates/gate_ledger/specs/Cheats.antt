-- SPDX-License-Identifier: Apache-2.0
-- Machines that cheat at the gate, each in one way. That the claim fails of them is proved in proofs/Cheats.antt.
use Rattle.std.specs.Prelude.{false, ◌&&◌, eqb, if◌then◌else◌}
use Rattle.basics.specs.Try.{refuse}
use Rattle.basics.specs.Refusals.{FULL}
use Rattle.gate.specs.Gate.{marked}
use Rattle.passage.specs.Access.{access_through}
use Rattle.ledger.specs.Calls as Plain
use Rattle.ledger.specs.Cheats.{with_access, with_resize}
use Rattle.gate_ledger.specs.Calls.{Machine, through_gate, gate_after, turn_gate}

-- access and resize do not look at the gate
abbrev pub no_gate : Machine
no_gate = record { through = λ g. Plain.rules; left = gate_after; turns = turn_gate }

-- resize does not look at it
abbrev pub never_waits : Machine
never_waits = record { through = λ g. with_resize (through_gate g) (Plain.rules).resize; left = gate_after; turns = turn_gate }

-- a dirty page stops loads
abbrev pub dirty_stops : Machine
dirty_stops = record {
  through = λ g. with_access (through_gate g) λ t key allow pins. access_through t g key (allow && eqb g.dirty 0) pins;
  left = gate_after;
  turns = turn_gate;
}

-- the mark is never set
abbrev pub never_marks : Machine
never_marks = record { through = through_gate; left = λ t g c. marked false (gate_after t g c); turns = turn_gate }

-- every attempt that is counted clears the mark, a later Busy too, as the original does
abbrev pub clears_later : Machine
clears_later = record {
  through = through_gate;
  left = λ t g c. if eqb (gate_after t g c).generation g.generation then gate_after t g c else marked false (gate_after t g c);
  turns = turn_gate;
}

-- every turn of the gate is refused
abbrev pub refuses_turns : Machine
refuses_turns = record { through = through_gate; left = gate_after; turns = λ g k. refuse FULL }
