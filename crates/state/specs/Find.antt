-- SPDX-License-Identifier: Apache-2.0
-- `find`: "Key clean: the next use number is taken, the slot touched, hits + 1, Hit. Key loading: in-progress + 1, LoadInProgress."
use Rattle.std.specs.Prelude.{ℕ, zero, suc, ◌+◌, not, leb, eqb, if◌then◌else◌}
use Rattle.std.proofs.Math.Option.{Option, none, some}
use Rattle.basics.specs.Try.{Try, ok, refuse, ◌>>=◌, ◌>>◌, need}
use Rattle.basics.specs.Refusals.{STOP, EXHAUSTED}
use Rattle.basics.specs.Numbers.{NONE, MAX}
use Rattle.key.specs.declared.CacheKey.{CacheKey}
use Rattle.key.specs.Key.{same_key}
use Rattle.index.specs.Chain.{CHAIN, head_of, next_of, length_of, walked}
use Rattle.eviction.specs.declared.EvictionHeap.{EvictionHeap}
use Rattle.eviction.specs.Heap.{touch_heap}
use Rattle.state.specs.declared.State.{State}
use Rattle.state.specs.Fresh.{sound}
use Rattle.state.specs.Slots.{slot_at, is_clean, occupied, clean_slot}
use Rattle.state.specs.Parts.{with_slot, with_heap, with_numbers, with_counters, count_hit, count_progress}

-- the end of a chain for which a length is kept, with steps left. Document 02: "A made-up table whose kept length differs from a chain that a call walks to
-- its end .. is met with 10."
abbrev pub ended : ℕ → ℕ → Try (Option ℕ)
ended kept left = if walked kept left then ok none else refuse STOP

-- `Index::find`: the slot of the chain, from `slot` on, that holds the key; a vacant one stops it. Document 02: "A search or removal that stops at a slot has
-- not walked to the end."
unfoldable pub find_from : ℕ → State → CacheKey → ℕ → Try (Option ℕ)
find_from zero t key slot = if eqb slot NONE then ended (length_of t.index key) 0 else refuse STOP
find_from (suc left) t key slot =
    if eqb slot NONE then ended (length_of t.index key) (suc left) else
    if leb t.capacity slot then refuse STOP else
    if not (occupied (slot_at t slot)) then refuse STOP else
    if same_key (slot_at t slot).key key then ok (some slot) else
    find_from left t key (next_of t.index slot)

-- `find` from the head of the key's chain, after the first test (which lookup and access have made before they come here, so it cannot fail there)
unfoldable pub find_key : State → CacheKey → Try (Option ℕ)
find_key t key = do
  need (sound t) STOP
  find_from CHAIN t key (head_of t.index key)

-- what the search saw
pub data Seen : Type 0 where
  found : ℕ → Seen
  waits : Seen
  absent : Seen

-- the table after the search, and what it saw
pub record Seek : Type 0 where
  pub table : State
  pub seen : Seen

-- "the next use number is taken, the slot touched"
unfoldable pub touch_next : ℕ → EvictionHeap → ℕ → ℕ → Try EvictionHeap
touch_next c h slot last = do
  need (not (eqb last MAX)) EXHAUSTED
  touch_heap c h slot (last + 1)

-- "the next use number is taken, the slot touched, hits + 1"
unfoldable pub hit_at : State → CacheKey → ℕ → Try Seek
hit_at t key slot = do
  h ← touch_next t.capacity t.eviction slot t.next_access_sequence
  let n = t.next_access_sequence + 1
  ok (record {
    table = with_counters (with_slot (with_numbers (with_heap t h) t.next_load_generation n) slot (clean_slot key n)) (count_hit t.counters);
    seen = found slot;
  })

-- clean: a hit; loading: "in-progress + 1"
unfoldable pub seek_at : State → CacheKey → Option ℕ → Try Seek
seek_at t key none = ok (record { table = t; seen = absent })
seek_at t key (some slot) =
    if is_clean (slot_at t slot) then hit_at t key slot else
    ok (record { table = with_counters t (count_progress t.counters); seen = waits })

-- `find`, and what it does to the table
unfoldable pub seek : State → CacheKey → Try Seek
seek t key = do
  at ← find_key t key
  seek_at t key at
