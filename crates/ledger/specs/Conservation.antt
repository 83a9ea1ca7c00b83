-- SPDX-License-Identifier: Apache-2.0
-- Document 02, request 7: "Over any such run, counting only publishes and aborts that succeed, reservations given equal publishes plus aborts plus outstanding
-- ones, and publishes equal clean keys plus keys evicted, removed, detached, reclaimed or dropped by resize."
use Rattle.std.specs.Prelude.{ℕ, ◌+◌, ◌<◌, ◌≤◌, ◌≡◌, not, List, [], ◌∷◌, eqb, length}
use Rattle.basics.specs.Try.{ok}
use Rattle.basics.specs.Lists.{keep, some?}
use Rattle.basics.specs.Answers.{done}
use Rattle.state.specs.declared.State.{State}
use Rattle.state.specs.Slots.{slot_at, is_loading, is_clean, occupied}
use Rattle.state.specs.Answers.{reserved, evicted}
use Rattle.state.specs.Fresh.{fresh}
use Rattle.maintenance_resize.specs.Answers as Size
use Rattle.laws_table.specs.Table.{how_many}
use Rattle.ledger.specs.Calls.{Machine, Call, Event, accessed, published, aborted, removed, detached, resized, reclaimed, run, log}
use Rattle.ledger.specs.Ledger.{Ledger, begin, stays, feed, feeds}

-- ── "all else is counted from the calls and answers": what one call and its answer count, with the ledger before the call ──
-- a reservation given
abbrev pub reservations : Ledger → Event → ℕ
reservations l (accessed key allow pins (ok (reserved k))) = 1
reservations l (accessed key allow pins (ok (evicted k))) = 1
reservations l e = 0

-- "counting only publishes and aborts that succeed"
abbrev pub publishes : Ledger → Event → ℕ
publishes l (published k (ok done)) = 1
publishes l e = 0

abbrev pub aborts : Ledger → Event → ℕ
aborts l (aborted k (ok done)) = 1
aborts l e = 0

-- "keys evicted, removed, detached, reclaimed"
abbrev pub evictions : Ledger → Event → ℕ
evictions l (accessed key allow pins (ok (evicted k))) = 1
evictions l e = 0

abbrev pub removals : Ledger → Event → ℕ
removals l (removed slot (ok done)) = 1
removals l e = 0

abbrev pub detachments : Ledger → Event → ℕ
detachments l (detached slot (ok done)) = 1
detachments l e = 0

abbrev pub reclaims : Ledger → Event → ℕ
reclaims l (reclaimed limit pins (ok done) count slots) = count
reclaims l e = 0

-- "or dropped by resize": the keys to which the list of a remaking gives 65535. It gives that to vacant slots too, and the ledger tells which slots hold a key.
abbrev pub drops : Ledger → Event → ℕ
drops l (resized asked pins (ok (Size.resized c)) list) = length (keep (λ h. not (stays list h)) l.held)
drops l e = 0

-- over the calls of a list with their answers
unfoldable pub total : (Ledger → Event → ℕ) → Ledger → List Event → ℕ
total f l [] = 0
total f l (e ∷ es) = f l e + total f (feed l e) es

-- ── the claim ──
-- of the table that the calls leave. "Outstanding ones and clean keys are the table's loading and clean slots": its slots, not its counts
pub record Conserved (t : State) (l : Ledger) (es : List Event) : Type 0 where
  pub outstanding : total reservations l es ≡ total publishes l es + total aborts l es + how_many is_loading t.slots t.capacity
  pub clean :
      total publishes l es
      ≡ how_many is_clean t.slots t.capacity
      + (total evictions l es + total removals l es + total detachments l es + total reclaims l es + total drops l es)
  -- the slots that hold a key are those of the ledger's keys, so that it tells drops rightly
  pub told : (x : ℕ) → x < t.capacity → occupied (slot_at t x) ≡ some? (λ h. eqb h.slot x) (feeds l es).held

-- "Over any such run": after every list of calls with any arguments, refused ones included, from a fresh table of 1 to 256 slots. No premise on tokens or
-- counts.
abbrev pub Conservation : Machine → Type 0
Conservation m = (c : ℕ) → 0 < c → c ≤ 256 → (calls : List Call) → Conserved (run m (fresh c) calls) (begin c) (log m (fresh c) calls)
