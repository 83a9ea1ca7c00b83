-- SPDX-License-Identifier: Apache-2.0
-- "These cheats are shut out": machines that cheat, each by one call or a few. That the claim fails of them is proved in proofs/Cheats.antt.
use Rattle.std.specs.Prelude.{ℕ, Bool, false, ◌&&◌, List, map, ltb, eqb, set, if◌then◌else◌}
use Rattle.basics.specs.Try.{Try, ok, refuse}
use Rattle.basics.specs.Refusals.{STALE, EXHAUSTED, STOP}
use Rattle.basics.specs.Numbers.{MAX}
use Rattle.basics.specs.Answers.{Fine, done}
use Rattle.key.specs.declared.CacheKey.{CacheKey}
use Rattle.eviction.specs.Entries.{at}
use Rattle.state.specs.declared.State.{State}
use Rattle.state.specs.declared.LoadToken.{LoadToken}
use Rattle.state.specs.Slots.{slot_at}
use Rattle.state.specs.Parts.{with_slot}
use Rattle.state.specs.Fresh.{fresh}
use Rattle.state.specs.Answers.{Given, hit, in_progress, reserved, evicted, busy, After}
use Rattle.maintenance_resize.specs.Answers as Size
use Rattle.maintenance_reclaim.specs.Answers.{Reclaiming}
use Rattle.maintenance_reclaim.specs.Reclaim.{no_slots}
use Rattle.ledger.specs.Calls.{Machine, rules}

-- the machine with one call done another way
abbrev pub with_access : Machine → (State → CacheKey → Bool → List ℕ → After Given) → Machine
with_access m f = record {
  access = f;
  publish = m.publish;
  abort = m.abort;
  lookup = m.lookup;
  remove = m.remove;
  detach = m.detach;
  resize = m.resize;
  reclaim = m.reclaim;
}

abbrev pub with_publish : Machine → (State → LoadToken → After Fine) → Machine
with_publish m f = record {
  access = m.access;
  publish = f;
  abort = m.abort;
  lookup = m.lookup;
  remove = m.remove;
  detach = m.detach;
  resize = m.resize;
  reclaim = m.reclaim;
}

abbrev pub with_resize : Machine → (State → ℕ → List ℕ → List ℕ → Size.Resizing) → Machine
with_resize m f = record {
  access = m.access;
  publish = m.publish;
  abort = m.abort;
  lookup = m.lookup;
  remove = m.remove;
  detach = m.detach;
  resize = f;
  reclaim = m.reclaim;
}

abbrev pub with_reclaim : Machine → (State → ℕ → List ℕ → Reclaiming) → Machine
with_reclaim m f = record {
  access = m.access;
  publish = m.publish;
  abort = m.abort;
  lookup = m.lookup;
  remove = m.remove;
  detach = m.detach;
  resize = m.resize;
  reclaim = f;
}

-- "CapacityBusy before looking at stack or heap"
abbrev pub busy_first : Machine
busy_first = with_access rules λ t key allow pins. rules.access t key false pins

-- "publish that always gives 6"
abbrev pub never_publishes : Machine
never_publishes = with_publish rules λ t k. record { table = t; answer = refuse STALE }

-- a victim that is not the least recently used: the heap's root is passed over, as if it were pinned
abbrev pub spares_oldest : Machine
spares_oldest = with_access rules λ t key allow pins. rules.access t key allow (set pins (at t.eviction 0).slot 1)

-- "a table handed back untouched"
abbrev pub untouched : Machine
untouched = record {
  access = λ t key allow pins. record { table = t; answer = (rules.access t key allow pins).answer };
  publish = λ t k. record { table = t; answer = (rules.publish t k).answer };
  abort = λ t k. record { table = t; answer = (rules.abort t k).answer };
  lookup = λ t key. record { table = t; answer = (rules.lookup t key).answer };
  remove = λ t slot. record { table = t; answer = (rules.remove t slot).answer };
  detach = λ t slot. record { table = t; answer = (rules.detach t slot).answer };
  resize = λ t asked pins list. record { table = t; answer = (rules.resize t asked pins list).answer; list = (rules.resize t asked pins list).list };
  reclaim = λ t limit pins.
      let r : Reclaiming = rules.reclaim t limit pins in record { table = t; answer = r.answer; count = r.count; slots = r.slots };
}

-- "every call refused"
abbrev pub refuses_all : Machine
refuses_all = record {
  access = λ t key allow pins. record { table = t; answer = refuse STOP };
  publish = λ t k. record { table = t; answer = refuse STOP };
  abort = λ t k. record { table = t; answer = refuse STOP };
  lookup = λ t key. record { table = t; answer = refuse STOP };
  remove = λ t slot. record { table = t; answer = refuse STOP };
  detach = λ t slot. record { table = t; answer = refuse STOP };
  resize = λ t asked pins list. record { table = t; answer = refuse STOP; list = list };
  reclaim = λ t limit pins. record { table = t; answer = refuse STOP; count = 0; slots = no_slots };
}

-- a pinned key is evicted: the pins are not looked at
abbrev pub ignores_pins : Machine
ignores_pins = with_access rules λ t key allow pins. rules.access t key allow (map (λ p. 0) pins)

-- a token is good for ever: publish of a token that was published says done, and changes nothing
abbrev pub publishes_twice : Machine
publishes_twice = with_publish rules λ t k. record { table = (rules.publish t k).table; answer = ok done }

-- "reclaim that removes one slot and reports its limit"
abbrev pub over_reports : Machine
over_reports = with_reclaim rules λ t limit pins.
    record { table = (rules.reclaim t 1 pins).table; answer = ok done; count = limit; slots = (rules.reclaim t limit pins).slots }

-- ── over a resize ──
-- "pinned keys stay": the pins are not looked at
abbrev pub resize_ignores_pins : Machine
resize_ignores_pins = with_resize rules λ t asked pins list. rules.resize t asked (map (λ p. 0) pins) list

-- whether a table of capacity c grew
abbrev pub grew : ℕ → Try Size.Size → Bool
grew c (ok Size.unchanged) = false
grew c (ok Size.busy_now) = false
grew c (ok (Size.resized n)) = ltb c n
grew c (refuse n) = false

-- "growing loses none": a key is reclaimed first, and the list gives it 65535
abbrev pub loses_growing : Machine
loses_growing = with_resize rules λ t asked pins list.
    let left : State = if grew t.capacity (rules.resize t asked pins list).answer then (rules.reclaim t 1 pins).table else t in
    rules.resize left asked pins list

-- the slot with last use 0
abbrev pub undated : State → ℕ → State
undated t slot = with_slot t slot (record { kind = (slot_at t slot).kind; key = (slot_at t slot).key; generation = (slot_at t slot).generation; last_access = 0 })

-- "last uses stay": that of the oldest key becomes 0, so the order of the keys is as it was
abbrev pub changes_last_use : Machine
changes_last_use = with_resize rules λ t asked pins list.
    let r : Size.Resizing = rules.resize t asked pins list in
    record { table = undated r.table (at r.table.eviction 0).slot; answer = r.answer; list = r.list }

-- the numbers begin again: an emptied table made smaller is a fresh one, as the original makes it
abbrev pub begins_anew : Machine
begins_anew = with_resize rules λ t asked pins list.
    let r : Size.Resizing = rules.resize t asked pins list in
    record {
      table = if eqb t.clean 0 && ltb r.table.capacity t.capacity then fresh r.table.capacity else r.table;
      answer = r.answer;
      list = r.list;
    }

-- ── an access ──
-- one of two where a key goes, else the other
abbrev pub if_evicted : {A : Type 0} → Try Given → A → A → A
if_evicted (ok (hit slot)) a b = b
if_evicted (ok in_progress) a b = b
if_evicted (ok (reserved k)) a b = b
if_evicted (ok (evicted k)) a b = a
if_evicted (ok busy) a b = b
if_evicted (refuse n) a b = b

-- "if it is pinned, some unpinned clean key goes": where that must be, the oldest goes, though it is pinned
abbrev pub evicts_pinned : Machine
evicts_pinned = with_access rules λ t key allow pins.
    rules.access t key allow (if_evicted (rules.access t key allow pins).answer (map (λ p. 0) pins) pins)

-- whether a token carries the use number 2^64 − 1
abbrev pub gives_last : Try Given → Bool
gives_last (ok (hit slot)) = false
gives_last (ok in_progress) = false
gives_last (ok (reserved k)) = eqb k.access_sequence MAX
gives_last (ok (evicted k)) = eqb k.access_sequence MAX
gives_last (ok busy) = false
gives_last (refuse n) = false

-- 7 where the use number stands one below 2^64 − 1: a reservation never gives that greatest number
abbrev pub refuses_early : Machine
refuses_early = with_access rules λ t key allow pins.
    if gives_last (rules.access t key allow pins).answer then record { table = t; answer = refuse EXHAUSTED } else rules.access t key allow pins
