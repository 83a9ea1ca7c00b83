-- SPDX-License-Identifier: Apache-2.0
-- The calls of demand 3 under the gate: the eight, of which access and resize go through it, and those that begin and end a pause or a dirty page.
use Rattle.std.specs.Prelude.{ℕ, List, [], ◌∷◌}
use Rattle.basics.specs.Try.{Try, ok, refuse}
use Rattle.basics.specs.Answers.{Fine, done}
use Rattle.state.specs.declared.State.{State}
use Rattle.state.specs.Fresh.{fresh}
use Rattle.ledger.specs.Calls as Plain
use Rattle.gate.specs.declared.Gate.{Gate}
use Rattle.gate.specs.Gate as TheGate
use Rattle.passage.specs.Access.{access_through}
use Rattle.passage.specs.Resize.{resize_through}

-- "the calls that begin and end a pause or a dirty page"
pub data Turn : Type 0 where
  begin_pause : Turn
  end_pause : Turn
  begin_dirty : Turn
  end_dirty : Turn

pub data Call : Type 0 where
  call : Plain.Call → Call
  turn : Turn → Call

-- a call with its answer
pub data Event : Type 0 where
  called : Plain.Event → Event
  turned : Turn → Try Fine → Event

-- what works out the calls: the eight with the gate as it stands, the gate that they leave, and the turns of the gate
pub record Machine : Type 0 where
  pub through : Gate → Plain.Machine
  pub left : State → Gate → Plain.Call → Gate
  pub turns : Gate → Turn → Try Gate

-- "every access and resize goes through it"
abbrev pub through_gate : Gate → Plain.Machine
through_gate g = record {
  access = λ t key allow pins. access_through t g key allow pins;
  publish = (Plain.rules).publish;
  abort = (Plain.rules).abort;
  lookup = (Plain.rules).lookup;
  remove = (Plain.rules).remove;
  detach = (Plain.rules).detach;
  resize = λ t asked pins list. (resize_through t g asked pins list).resizing;
  reclaim = (Plain.rules).reclaim;
}

-- the gate after one of the eight: only resize changes it
unfoldable pub gate_after : State → Gate → Plain.Call → Gate
gate_after t g (Plain.access key allow pins) = g
gate_after t g (Plain.publish k) = g
gate_after t g (Plain.abort k) = g
gate_after t g (Plain.lookup key) = g
gate_after t g (Plain.remove slot) = g
gate_after t g (Plain.detach slot) = g
gate_after t g (Plain.resize asked pins list) = (resize_through t g asked pins list).gate
gate_after t g (Plain.reclaim limit pins) = g

unfoldable pub turn_gate : Gate → Turn → Try Gate
turn_gate g begin_pause = TheGate.begin_pause g
turn_gate g end_pause = TheGate.end_pause g
turn_gate g begin_dirty = TheGate.begin_dirty g
turn_gate g end_dirty = TheGate.end_dirty g

-- the calls as the rules have them
abbrev pub rules : Machine
rules = record { through = through_gate; left = gate_after; turns = turn_gate }

-- table and gate, "as the last call left it"
pub record Standing : Type 0 where
  pub table : State
  pub gate : Gate

-- "The list starts with the gate as at first"
abbrev pub start : ℕ → Standing
start c = record { table = fresh c; gate = TheGate.at_first }

abbrev pub gate_or : Gate → Try Gate → Gate
gate_or g (ok h) = h
gate_or g (refuse n) = g

abbrev pub fine : {A : Type 0} → Try A → Try Fine
fine (ok a) = ok done
fine (refuse n) = refuse n

unfoldable pub event : Machine → Standing → Call → Event
event m s (call c) = called (Plain.event (m.through s.gate) s.table c)
event m s (turn k) = turned k (fine (m.turns s.gate k))

unfoldable pub after : Machine → Standing → Call → Standing
after m s (call c) = record { table = Plain.after (m.through s.gate) s.table c; gate = m.left s.table s.gate c }
after m s (turn k) = record { table = s.table; gate = gate_or s.gate (m.turns s.gate k) }

unfoldable pub run : Machine → Standing → List Call → Standing
run m s [] = s
run m s (c ∷ cs) = run m (after m s c) cs

unfoldable pub log : Machine → Standing → List Call → List Event
log m s [] = []
log m s (c ∷ cs) = event m s c ∷ log m (after m s c) cs
