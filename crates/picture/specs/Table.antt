-- SPDX-License-Identifier: Apache-2.0
-- A table in plain numbers: the parts 2 to 10 and 12 of a trace, as oracle/README.md has them.
use Rattle.std.specs.Prelude.{ℕ, List, [], ◌∷◌, ◌++◌, take}
use Rattle.eviction.specs.declared.Entry.{Entry}
use Rattle.eviction.specs.declared.EvictionHeap.{EvictionHeap}
use Rattle.index.specs.declared.Index.{Index}
use Rattle.state.specs.declared.Slot.{Slot}
use Rattle.state.specs.declared.State.{State}
use Rattle.picture_numbers.specs.Numbers.{word_numbers, below, past}

-- "kind .., file, key's kind, index, generation, last_access"
abbrev pub slot_numbers : Slot → List ℕ
slot_numbers s = s.kind ∷ s.key.file ∷ s.key.kind ∷ s.key.index ∷ s.generation ∷ s.last_access ∷ []

-- "its slot and its last_access"
abbrev pub entry_numbers : Entry → List ℕ
entry_numbers e = e.slot ∷ e.last_access ∷ []

-- 2: "capacity, clean, loading, hits, misses, evictions, in_progress, capacity_busy, next_load_generation, next_access_sequence"
abbrev pub count_numbers : State → List ℕ
count_numbers t =
    t.capacity ∷ t.clean ∷ t.loading
    ∷ t.counters.hits ∷ t.counters.misses ∷ t.counters.evictions ∷ t.counters.in_progress ∷ t.counters.capacity_busy
    ∷ t.next_load_generation ∷ t.next_access_sequence ∷ []

-- 4 to 8: "bucket count", "heads", "lengths", "next", "length of the free stack, then its slots from the bottom to the top"
unfoldable pub index_numbers : Index → ℕ → List ℕ
index_numbers ix capacity =
    (ix.buckets ∷ []) ++ take ix.buckets ix.heads ++ take ix.buckets ix.lengths ++ take capacity ix.next
    ++ (ix.free_len ∷ []) ++ take ix.free_len ix.free

-- 9 and 10: "length of the heap, then for each heap place its slot and its last_access", "positions"
unfoldable pub heap_numbers : EvictionHeap → ℕ → List ℕ
heap_numbers h capacity =
    (h.len ∷ []) ++ below entry_numbers h.len h.entries ++ take capacity h.positions

-- 2 to 10, with "for each slot below the capacity" as 3
unfoldable pub table_numbers : State → List ℕ
table_numbers t =
    count_numbers t ++ below slot_numbers t.capacity t.slots
    ++ index_numbers t.index t.capacity ++ heap_numbers t.eviction t.capacity

-- 12, without the pins: "slots past the capacity, heads and lengths past the bucket count, next past the capacity, stack places past the stack's length,
-- heap places past the heap's length, positions past the capacity"
unfoldable pub index_past : Index → ℕ → List ℕ
index_past ix capacity =
    past word_numbers ix.buckets ix.heads ++ past word_numbers ix.buckets ix.lengths ++ past word_numbers capacity ix.next
    ++ past word_numbers ix.free_len ix.free

unfoldable pub heap_past : EvictionHeap → ℕ → List ℕ
heap_past h capacity = past entry_numbers h.len h.entries ++ past word_numbers capacity h.positions

unfoldable pub past_numbers : State → List ℕ
past_numbers t =
    past slot_numbers t.capacity t.slots ++ index_past t.index t.capacity ++ heap_past t.eviction t.capacity
