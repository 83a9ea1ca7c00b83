-- SPDX-License-Identifier: Apache-2.0
-- Demand 3, of any machine.
use Rattle.std.specs.Prelude.{ℕ, zero, suc, ◌<◌, ◌≤◌, ◌≡◌, ◌⊎◌, Bool, true, not, ◌&&◌, List, [], ◌∷◌, map, ltb, eqb, T, take, if◌then◌else◌}
use Rattle.std.proofs.Math.Option.{Option, none, some}
use Rattle.basics.specs.Try.{Try, ok, refuse}
use Rattle.basics.specs.Refusals.{STALE}
use Rattle.basics.specs.Numbers.{MAX}
use Rattle.basics.specs.Lists.{every, some?, first}
use Rattle.basics.specs.Answers.{done}
use Rattle.key.specs.declared.CacheKey.{CacheKey}
use Rattle.key.specs.Key.{same_key}
use Rattle.state.specs.declared.Slot.{Slot}
use Rattle.state.specs.declared.State.{State}
use Rattle.state.specs.declared.LoadToken.{LoadToken}
use Rattle.state.specs.Slots.{is_loading, is_clean}
use Rattle.state.specs.Answers.{Given, reserved, evicted, busy}
use Rattle.state.specs.Fresh.{fresh}
use Rattle.ledger.specs.Calls.{Machine, Call, Event, accessed, published, aborted, looked, removed, detached, resized, reclaimed, event, run, log}
use Rattle.ledger.specs.Ledger.{Ledger, Held, begin, next_token, feed_resize, feed, feeds}
use Rattle.ledger.specs.Expect.{Expect, exactly, vacancy, goes, one_goes, unpinned, clean_ones, oldest, expect, was_given, outstanding}
use Rattle.ledger.specs.Expect.{expect_end, resize_keeps}

-- ── the table holds exactly the ledger's keys, each once ──
-- what a slot shows: nothing, a loading key, or a clean key with its last use
pub data Shown : Type 0 where
  nothing : Shown
  loads : CacheKey → Shown
  keeps : CacheKey → ℕ → Shown

-- of a slot of the table
unfoldable pub shown : Slot → Shown
shown s = if is_loading s then loads s.key else if is_clean s then keeps s.key s.last_access else nothing

-- of a key of the ledger, or of none
unfoldable pub shown_held : Option Held → Shown
shown_held none = nothing
shown_held (some h) = if h.clean then keeps h.key h.last else loads h.key

-- what the ledger has in so many slots, from `slot` on
unfoldable pub slots_from : ℕ → ℕ → Ledger → List Shown
slots_from zero slot l = []
slots_from (suc left) slot l = shown_held (first (λ h. eqb h.slot slot) l.held) ∷ slots_from left (suc slot) l

-- no key twice, no slot twice
unfoldable pub distinct : List Held → Bool
distinct [] = true
distinct (h ∷ hs) = every (λ o. not (same_key o.key h.key) && not (eqb o.slot h.slot)) hs && distinct hs

-- "After every list the table's loading and clean slots are the ledger's, each with its key, a clean one with its last use."
pub record Holds (t : State) (l : Ledger) : Type 0 where
  pub capacity : t.capacity ≡ l.capacity
  pub slots : map shown (take t.capacity t.slots) ≡ slots_from l.capacity 0 l
  pub inside : T (every (λ (h : Held). ltb h.slot l.capacity) l.held)
  pub once : T (distinct l.held)

-- ── what the ledger gives, or among what it leaves open ──
abbrev pub Gives : Ledger → CacheKey → List ℕ → Expect → Try Given → Type 0
Gives l key pins (exactly a) answer = answer ≡ a
Gives l key pins vacancy answer =
    (slot : ℕ) × T (ltb slot l.capacity) × T (not (some? (λ h. eqb h.slot slot) l.held)) × (answer ≡ ok (reserved (next_token l key slot)))
Gives l key pins (goes h) answer = answer ≡ ok (evicted (next_token l key h.slot))
Gives l key pins (one_goes may) answer =
    ((slot : ℕ) × T (some? (λ h. eqb h.slot slot && unpinned pins h) (clean_ones l)) × (answer ≡ ok (evicted (next_token l key slot))))
    ⊎ (T may × (answer ≡ ok busy))

-- the answer of access, publish or abort is what the ledger gives, or among those that it leaves open; and what holds over a resize
abbrev pub Allowed : Ledger → Event → Type 0
Allowed l (accessed key allow pins a) = Gives l key pins (expect l key allow pins) a
Allowed l (published k a) = a ≡ expect_end l k
Allowed l (aborted k a) = a ≡ expect_end l k
Allowed l (looked key a) = Unit {0}
Allowed l (removed slot a) = Unit {0}
Allowed l (detached slot a) = Unit {0}
Allowed l (resized asked pins a list) = T (resize_keeps pins l (feed_resize l a list))
Allowed l (reclaimed limit pins a count slots) = Unit {0}

-- ── the premises ──
-- a token shown is one that was given out, unaltered, in that list
abbrev pub TokenGiven : Ledger → Event → Type 0
TokenGiven l (accessed key allow pins a) = Unit {0}
TokenGiven l (published k a) = T (was_given l k)
TokenGiven l (aborted k a) = T (was_given l k)
TokenGiven l (looked key a) = Unit {0}
TokenGiven l (removed slot a) = Unit {0}
TokenGiven l (detached slot a) = Unit {0}
TokenGiven l (resized asked pins a list) = Unit {0}
TokenGiven l (reclaimed limit pins a count slots) = Unit {0}

-- and use and generation counts are below their greatest number
pub record Fair (l : Ledger) (e : Event) : Type 0 where
  pub token : TokenGiven l e
  pub uses : l.uses < MAX
  pub generations : l.generations < MAX

-- the premises at each call of the list
abbrev pub FairAll : Ledger → List Event → Type 0
FairAll l [] = Unit {0}
FairAll l (e ∷ es) = Fair l e × FairAll (feed l e) es

-- ── the claim ──
-- the ledger after the calls, worked out from them and their answers
unfoldable pub ledger_of : Machine → ℕ → List Call → Ledger
ledger_of m c calls = feeds (begin c) (log m (fresh c) calls)

-- what holds of a table t and a ledger l after a list of calls
pub record Kept (m : Machine) (t : State) (l : Ledger) : Type 0 where
  -- the table holds exactly the ledger's keys, each once
  pub holds : Holds t l
  -- the next answer is what the ledger gives, or among those that it leaves open
  pub next : (c : Call) → Fair l (event m t c) → Allowed l (event m t c)
  -- whatever the pins and counts, an access that evicts takes the least recently used clean key if it is unpinned
  pub oldest_goes :
      (key : CacheKey) (allow : Bool) (pins : List ℕ) (k : LoadToken) (h : Held) →
      ((m.access t key allow pins).answer ≡ ok (evicted k)) →
      (oldest (clean_ones l) ≡ some h) →
      T (unpinned pins h) → k.slot ≡ h.slot
  -- a token is good exactly until it is published or aborted, whatever the counts
  pub good : (k : LoadToken) → T (outstanding l k) → ((m.publish t k).answer ≡ ok done) × ((m.abort t k).answer ≡ ok done)
  pub spent : (k : LoadToken) → T (was_given l k) → T (not (outstanding l k))
      → ((m.publish t k).answer ≡ refuse STALE) × ((m.abort t k).answer ≡ refuse STALE)

-- after every list of calls with any arguments, refused ones included, from a fresh table of 1 to 256 slots
abbrev pub Demand3 : Machine → Type 0
Demand3 m =
    (c : ℕ) → 0 < c → c ≤ 256 → (calls : List Call) → FairAll (begin c) (log m (fresh c) calls)
    → Kept m (run m (fresh c) calls) (ledger_of m c calls)
