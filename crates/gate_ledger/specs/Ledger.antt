-- SPDX-License-Identifier: Apache-2.0
-- The ledger under the gate: document 01's, with pauses, dirty pages and the mark "told from the calls and answers".
use Rattle.std.specs.Prelude.{ℕ, ◌+◌, ◌-◌, Bool, true, false, not, ◌&&◌, List, [], ◌∷◌, eqb, if◌then◌else◌}
use Rattle.basics.specs.Try.{Try, ok, refuse}
use Rattle.basics.specs.Refusals.{EXHAUSTED}
use Rattle.basics.specs.Lists.{some?}
use Rattle.basics.specs.Answers.{Fine, done}
use Rattle.maintenance_resize.specs.Answers as Size
use Rattle.ledger.specs.Calls as Plain
use Rattle.ledger.specs.Ledger as PlainLedger
use Rattle.gate_ledger.specs.Calls.{Turn, begin_pause, end_pause, begin_dirty, end_dirty, Event, called, turned}

-- the keys and numbers of document 01's ledger, and what the calls and answers tell of the gate. The generation is not told: no answer shows it.
pub record Ledger : Type 0 where
  pub keys : PlainLedger.Ledger
  pub pauses : ℕ
  pub dirty : ℕ
  pub pending : Bool

-- "all 0 and unmarked at first"
unfoldable pub begin : ℕ → Ledger
begin c = record { keys = PlainLedger.begin c; pauses = 0; dirty = 0; pending = false }

-- "the ledger reads "loading allowed" as allowed, not paused, not pending"
unfoldable pub allows : Ledger → Bool → Bool
allows l allow = allow && eqb l.pauses 0 && not l.pending

-- a pause or a dirty page
unfoldable pub stopped : Ledger → Bool
stopped l = not (eqb l.pauses 0 && eqb l.dirty 0)

-- some key is loading
unfoldable pub loads : PlainLedger.Ledger → Bool
loads l = some? (λ h. not h.clean) l.held

-- the mark after an answer of resize. "Resized and Unchanged clear it"; a Busy while paused or dirty "changes nothing", one over loads "sets it", "a
-- later Busy leaves it"; "Every refusal but that 7 leaves the gate as it was."
unfoldable pub mark_after : Ledger → Try Size.Size → Bool
mark_after l (ok Size.unchanged) = false
mark_after l (ok Size.busy_now) = if stopped l then l.pending else if loads l.keys then true else l.pending
mark_after l (ok (Size.resized c)) = false
mark_after l (refuse n) = if eqb n EXHAUSTED then false else l.pending

-- only resize changes the mark
unfoldable pub feed_mark : Ledger → Plain.Event → Bool
feed_mark l (Plain.accessed key allow pins a) = l.pending
feed_mark l (Plain.published k a) = l.pending
feed_mark l (Plain.aborted k a) = l.pending
feed_mark l (Plain.looked key a) = l.pending
feed_mark l (Plain.removed slot a) = l.pending
feed_mark l (Plain.detached slot a) = l.pending
feed_mark l (Plain.resized asked pins a list) = mark_after l a
feed_mark l (Plain.reclaimed limit pins a count slots) = l.pending

-- the ledger with these counts
abbrev pub with_counts : Ledger → ℕ → ℕ → Ledger
with_counts l p d = record { keys = l.keys; pauses = p; dirty = d; pending = l.pending }

-- a turn that is done counts; a refused one leaves the ledger as it was
unfoldable pub feed_turn : Ledger → Turn → Try Fine → Ledger
feed_turn l begin_pause (ok done) = with_counts l (l.pauses + 1) l.dirty
feed_turn l end_pause (ok done) = with_counts l (l.pauses - 1) l.dirty
feed_turn l begin_dirty (ok done) = with_counts l l.pauses (l.dirty + 1)
feed_turn l end_dirty (ok done) = with_counts l l.pauses (l.dirty - 1)
feed_turn l k (refuse n) = l

-- one call with its answer, and a list of them
unfoldable pub feed : Ledger → Event → Ledger
feed l (called e) = record { keys = PlainLedger.feed l.keys e; pauses = l.pauses; dirty = l.dirty; pending = feed_mark l e }
feed l (turned k a) = feed_turn l k a

unfoldable pub feeds : Ledger → List Event → Ledger
feeds l [] = l
feeds l (e ∷ es) = feeds (feed l e) es
