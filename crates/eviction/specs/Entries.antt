-- SPDX-License-Identifier: Apache-2.0
-- "A binary heap of (last use, slot) with the place of each slot."
use Rattle.std.specs.Prelude.{ℕ, ◌-◌, Bool, true, false, ◌&&◌, List, ◌++◌, ltb, leb, get_or, replicate, if◌then◌else◌}
use Rattle.basics.specs.Try.{Try, ok, ◌>>◌}
use Rattle.basics.specs.Numbers.{NONE}
use Rattle.basics.specs.Capacity.{need_capacity}
use Rattle.eviction.specs.declared.Entry.{Entry}
use Rattle.eviction.specs.declared.EvictionHeap.{EvictionHeap}

abbrev pub heap_of : List Entry → ℕ → List ℕ → EvictionHeap
heap_of es n ps = record { entries = es; len = n; positions = ps }

abbrev pub entry_of : ℕ → ℕ → Entry
entry_of slot n = record { slot = slot; last_access = n }

-- the entry at a place, and the place of a slot
abbrev pub at : EvictionHeap → ℕ → Entry
at h i = get_or h.entries i (entry_of 0 0)

abbrev pub pos_of : EvictionHeap → ℕ → ℕ
pos_of h slot = get_or h.positions slot 0

-- "Older means smaller last use, then smaller slot."
unfoldable pub older : Entry → Entry → Bool
older a b =
    if ltb a.last_access b.last_access then true else
    if ltb b.last_access a.last_access then false else
    ltb a.slot b.slot

-- sizes that the arrays hold; a table past its first test has them
unfoldable pub sized : ℕ → EvictionHeap → Bool
sized c h = leb c 256 && leb h.len c

-- a fresh heap; "other places past a length are 0"
unfoldable pub fresh_heap : ℕ → EvictionHeap
fresh_heap c = heap_of (replicate 256 (entry_of 0 0)) 0 (replicate c NONE ++ replicate (256 - c) 0)

-- of a refused new table: "every number 0"
unfoldable pub no_heap : EvictionHeap
no_heap = heap_of (replicate 256 (entry_of 0 0)) 0 (replicate 256 0)

-- `try_new`, of a capacity that a table may have
unfoldable pub new_heap : ℕ → Try EvictionHeap
new_heap c = do
  need_capacity c
  ok (fresh_heap c)
