-- SPDX-License-Identifier: Apache-2.0
-- `access_with_victim`.
use Rattle.std.specs.Prelude.{ℕ, ◌+◌, ◌-◌, Bool, true, false, not, List, ltb, eqb, length, set, if◌then◌else◌}
use Rattle.std.proofs.Math.Option.{Option, none, some}
use Rattle.basics.specs.Try.{Try, ok, refuse, ◌>>=◌, ◌>>◌, need}
use Rattle.basics.specs.Refusals.{STOP, PINS, EXHAUSTED}
use Rattle.basics.specs.Numbers.{MAX}
use Rattle.key.specs.declared.CacheKey.{CacheKey}
use Rattle.index.specs.declared.Index.{Index}
use Rattle.index.specs.Chain.{can_insert, insert_index, remove_index}
use Rattle.index.specs.Free.{take_vacant}
use Rattle.eviction.specs.declared.EvictionHeap.{EvictionHeap}
use Rattle.eviction.specs.Heap.{remove_heap}
use Rattle.state.specs.declared.Counters.{Counters}
use Rattle.state.specs.declared.Slot.{Slot}
use Rattle.state.specs.declared.State.{State}
use Rattle.state.specs.declared.LoadToken.{LoadToken}
use Rattle.state.specs.Slots.{slot_at, is_loading, is_clean, loading_slot}
use Rattle.state.specs.Parts.{with_numbers, with_counters, count_miss, count_eviction, count_busy}
use Rattle.state.specs.Answers.{Given, hit, in_progress, reserved, evicted, busy, After, told, unless_refused}
use Rattle.state.specs.Fresh.{sound}
use Rattle.state.specs.Find.{Seen, found, waits, absent, seek}
use Rattle.state.specs.Victim.{target}

-- index, heap and number of clean slots once the slot is free for a key; `left` says whether a clean key left it
pub record Freed : Type 0 where
  pub index : Index
  pub heap : EvictionHeap
  pub clean : ℕ
  pub left : Bool

-- a vacant slot is taken from the stack
unfoldable pub take_top : ℕ → Index → EvictionHeap → ℕ → ℕ → Try Freed
take_top c ix h clean slot = do
  taken ← take_vacant c ix slot
  ok (record { index = taken; heap = h; clean = clean; left = false })

-- a clean key leaves the heap and its chain
unfoldable pub evict : ℕ → Index → EvictionHeap → ℕ → ℕ → CacheKey → Try Freed
evict c ix h clean slot key = do
  rest ← remove_heap c h slot
  cut ← remove_index c ix key slot
  need (ltb 0 clean) STOP
  ok (record { index = cut; heap = rest; clean = clean - 1; left = true })

-- `match previous`, the slot's record: loading is a stop, a clean key leaves, a vacant slot is taken
unfoldable pub free : ℕ → Index → EvictionHeap → ℕ → ℕ → Slot → Try Freed
free c ix h clean slot previous =
    if is_loading previous then refuse STOP else
    if is_clean previous then evict c ix h clean slot previous.key else take_top c ix h clean slot

-- "The token carries slot, generation, key and use number."
abbrev pub next_token : State → CacheKey → ℕ → LoadToken
next_token t key slot = record { slot = slot; generation = t.next_load_generation + 1; key = key; access_sequence = t.next_access_sequence + 1 }

-- "misses + 1, evictions + 1 if a clean key left"
abbrev pub count_load : Bool → Counters → Counters
count_load left k = if left then count_eviction (count_miss k) else count_miss k

-- "The slot becomes loading", under the next of both numbers, with index ix
unfoldable pub load_into : State → Freed → Index → CacheKey → ℕ → State
load_into t f ix key slot = record {
  slots = set t.slots slot (loading_slot key (t.next_load_generation + 1));
  capacity = t.capacity;
  index = ix;
  eviction = f.heap;
  next_load_generation = t.next_load_generation + 1;
  next_access_sequence = t.next_access_sequence + 1;
  counters = count_load f.left t.counters;
  clean = f.clean;
  loading = t.loading + 1;
}

-- the slot freed, linked under its new key, and loading
unfoldable pub occupy : State → CacheKey → ℕ → Try (After Given)
occupy t key slot = do
  need (ltb slot t.capacity) STOP
  f ← free t.capacity t.index t.eviction t.clean slot (slot_at t slot)
  ix ← insert_index t.capacity f.index key slot
  need (not (eqb t.loading MAX)) STOP
  ok (told (load_into t f ix key slot) (if f.left then evicted (next_token t key slot) else reserved (next_token t key slot)))

-- "A generation is taken, then a use number, both starting at 1." "7 for the use number in a reservation has used up a generation."
unfoldable pub reserve : State → CacheKey → ℕ → Try (After Given)
reserve t key slot = do
  need (not (eqb t.next_load_generation MAX)) EXHAUSTED
  if eqb t.next_access_sequence MAX then
      ok (record { table = with_numbers t (t.next_load_generation + 1) t.next_access_sequence; answer = refuse EXHAUSTED })
      else occupy t key slot

-- "capacity-busy + 1, CapacityBusy"
unfoldable pub capacity_busy : State → After Given
capacity_busy t = told (with_counters t (count_busy t.counters)) busy

-- "none: capacity-busy + 1, CapacityBusy"
unfoldable pub reserve_at : State → CacheKey → Option ℕ → Try (After Given)
reserve_at t key none = ok (capacity_busy t)
reserve_at t key (some slot) = reserve t key slot

-- "Absent, and loading not allowed or 64 slots in its chain: .. CapacityBusy, even with vacancies"; else the slot to load into
unfoldable pub choose : ℕ → Index → EvictionHeap → ℕ → CacheKey → Bool → List ℕ → Try (Option ℕ)
choose c ix h clean key allow pins =
    if not allow then ok none else do
      room ← can_insert c ix key
      if not room then ok none else target c ix h clean pins

-- no slot chosen is CapacityBusy
unfoldable pub miss : State → CacheKey → Bool → List ℕ → Try (After Given)
miss t key allow pins = do
  at ← choose t.capacity t.index t.eviction t.clean key allow pins
  reserve_at t key at

-- what `find` gave, else a load
unfoldable pub access_seen : State → CacheKey → Bool → List ℕ → Seen → Try (After Given)
access_seen t key allow pins (found slot) = ok (told t (hit slot))
access_seen t key allow pins waits = ok (told t in_progress)
access_seen t key allow pins absent = miss t key allow pins

-- "Access goes in this order", after the first test and 3
unfoldable pub access : State → CacheKey → Bool → List ℕ → After Given
access t key allow pins = unless_refused t do
  need (sound t) STOP
  need (eqb (length pins) t.capacity) PINS
  s ← seek t key
  access_seen s.table key allow pins s.seen
