-- SPDX-License-Identifier: Apache-2.0
-- Demand 3 under the gate, of any machine.
use Rattle.std.specs.Prelude.{ℕ, ◌<◌, ◌≤◌, ◌≡◌, Bool, true, not, ◌&&◌, List, [], ◌∷◌, ltb, eqb, T, if◌then◌else◌}
use Rattle.std.proofs.Math.Option.{some}
use Rattle.basics.specs.Try.{Try, ok, refuse}
use Rattle.basics.specs.Refusals.{STALE, FULL, EMPTY}
use Rattle.basics.specs.Numbers.{MAX}
use Rattle.basics.specs.Answers.{Fine, done}
use Rattle.key.specs.declared.CacheKey.{CacheKey}
use Rattle.state.specs.declared.LoadToken.{LoadToken}
use Rattle.state.specs.Answers.{evicted}
use Rattle.maintenance_resize.specs.Answers as Size
use Rattle.gate.specs.declared.Gate.{Gate}
use Rattle.ledger.specs.Calls as Plain
use Rattle.ledger.specs.Ledger.{Held}
use Rattle.ledger.specs.Expect.{unpinned, clean_ones, oldest, was_given, outstanding}
use Rattle.ledger.specs.Claim as PlainClaim
use Rattle.gate_ledger.specs.Calls.{Turn, begin_pause, end_pause, begin_dirty, end_dirty, Call, Event, called, turned}
use Rattle.gate_ledger.specs.Calls.{Machine, Standing, start, event, run, log}
use Rattle.gate_ledger.specs.Ledger.{Ledger, begin, allows, stopped, loads, feed, feeds}

-- the event as document 01's ledger reads it
unfoldable pub read_as : Ledger → Plain.Event → Plain.Event
read_as l (Plain.accessed key allow pins a) = Plain.accessed key (allows l allow) pins a
read_as l (Plain.published k a) = Plain.published k a
read_as l (Plain.aborted k a) = Plain.aborted k a
read_as l (Plain.looked key a) = Plain.looked key a
read_as l (Plain.removed slot a) = Plain.removed slot a
read_as l (Plain.detached slot a) = Plain.detached slot a
read_as l (Plain.resized asked pins a list) = Plain.resized asked pins a list
read_as l (Plain.reclaimed limit pins a count slots) = Plain.reclaimed limit pins a count slots

-- what a turn of the gate gives: 11 at 2^64−1, 12 at 0
unfoldable pub expect_turn : Ledger → Turn → Try Fine
expect_turn l begin_pause = if eqb l.pauses MAX then refuse FULL else ok done
expect_turn l end_pause = if ltb 0 l.pauses then ok done else refuse EMPTY
expect_turn l begin_dirty = if eqb l.dirty MAX then refuse FULL else ok done
expect_turn l end_dirty = if ltb 0 l.dirty then ok done else refuse EMPTY

-- what document 01's claim allows, "loading allowed" read so; and the answer of a turn
abbrev pub Allowed : Ledger → Event → Type 0
Allowed l (called e) = PlainClaim.Allowed l.keys (read_as l e)
Allowed l (turned k a) = a ≡ expect_turn l k

-- the premises of document 01's claim; a turn has none
abbrev pub Fair : Ledger → Event → Type 0
Fair l (called e) = PlainClaim.Fair l.keys e
Fair l (turned k a) = Unit {0}

-- the premises at each call of the list
abbrev pub FairAll : Ledger → List Event → Type 0
FairAll l [] = Unit {0}
FairAll l (e ∷ es) = Fair l e × FairAll (feed l e) es

-- the ledger after the calls, worked out from them and their answers
unfoldable pub ledger_of : Machine → ℕ → List Call → Ledger
ledger_of m c calls = feeds (begin c) (log m (start c) calls)

-- pauses, dirty pages and mark of the gate are those that the ledger tells
pub record Told (g : Gate) (l : Ledger) : Type 0 where
  pub pauses : g.pauses ≡ l.pauses
  pub dirty : g.dirty ≡ l.dirty
  pub pending : g.pending ≡ l.pending

-- "Resize with a pause or a dirty page is Busy"; "a table with loads .. is Busy": with those no table is remade, and with a pause or a dirty page none is
-- Unchanged. Refusals and a Busy may come at any time.
unfoldable pub may_be : Ledger → Try Size.Size → Bool
may_be l (ok Size.unchanged) = not (stopped l)
may_be l (ok Size.busy_now) = true
may_be l (ok (Size.resized c)) = not (stopped l) && not (loads l.keys)
may_be l (refuse n) = true

-- what holds of a table, its gate and a ledger after a list of calls: document 01's five, the gate, and what resize may be
pub record Kept (m : Machine) (s : Standing) (l : Ledger) : Type 0 where
  pub holds : PlainClaim.Holds s.table l.keys
  pub told : Told s.gate l
  pub waits : (asked : ℕ) (pins list : List ℕ) → T (may_be l ((m.through s.gate).resize s.table asked pins list).answer)
  pub next : (c : Call) → Fair l (event m s c) → Allowed l (event m s c)
  pub oldest_goes :
      (key : CacheKey) (allow : Bool) (pins : List ℕ) (k : LoadToken) (h : Held) →
      (((m.through s.gate).access s.table key allow pins).answer ≡ ok (evicted k)) →
      (oldest (clean_ones l.keys) ≡ some h) →
      T (unpinned pins h) → k.slot ≡ h.slot
  pub good : (k : LoadToken) → T (outstanding l.keys k)
      → (((m.through s.gate).publish s.table k).answer ≡ ok done) × (((m.through s.gate).abort s.table k).answer ≡ ok done)
  pub spent : (k : LoadToken) → T (was_given l.keys k) → T (not (outstanding l.keys k))
      → (((m.through s.gate).publish s.table k).answer ≡ refuse STALE) × (((m.through s.gate).abort s.table k).answer ≡ refuse STALE)

-- after every list of the twelve calls with any arguments, refused ones included, from a fresh table of 1 to 256 slots with the gate as at first
abbrev pub Demand3Gated : Machine → Type 0
Demand3Gated m =
    (c : ℕ) → 0 < c → c ≤ 256 → (calls : List Call) → FairAll (begin c) (log m (start c) calls)
    → Kept m (run m (start c) calls) (ledger_of m c calls)
