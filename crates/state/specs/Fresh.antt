-- SPDX-License-Identifier: Apache-2.0
-- `new`, and the first test of 10.
use Rattle.std.specs.Prelude.{ℕ, Bool, ◌&&◌, ltb, leb, eqb, replicate}
use Rattle.basics.specs.Try.{ok, ◌>>◌}
use Rattle.basics.specs.Answers.{Fine, done}
use Rattle.basics.specs.Capacity.{need_capacity}
use Rattle.key.specs.Bucket.{bucket_count}
use Rattle.index.specs.declared.Index.{Index}
use Rattle.index.specs.Fresh.{fresh_index, no_index}
use Rattle.eviction.specs.declared.EvictionHeap.{EvictionHeap}
use Rattle.eviction.specs.Entries.{fresh_heap, no_heap}
use Rattle.state.specs.declared.State.{State}
use Rattle.state.specs.Slots.{vacant_slot}
use Rattle.state.specs.Parts.{counts_of}
use Rattle.state.specs.Answers.{After, told, unless_refused}

-- every slot vacant and every count 0, with this index and heap
unfoldable pub empty : ℕ → Index → EvictionHeap → State
empty c ix h = record {
  slots = replicate 256 vacant_slot;
  capacity = c;
  index = ix;
  eviction = h;
  next_load_generation = 0;
  next_access_sequence = 0;
  counters = counts_of 0 0 0 0 0;
  clean = 0;
  loading = 0;
}

-- `State::try_new`: "In a fresh table slots past the capacity are vacant, and other places past a length are 0."
unfoldable pub fresh : ℕ → State
fresh c = empty c (fresh_index c) (fresh_heap c)

-- "A refused new table has capacity 0, every slot vacant and every number 0."
unfoldable pub no_table : State
no_table = empty 0 no_index no_heap

-- `try_new`: made, or refused by 1 or 2
unfoldable pub new : ℕ → After Fine
new c = unless_refused no_table do
  need_capacity c
  ok (told (fresh c) done)

-- "also capacity or bucket count off the rule, or stack or heap longer than the capacity"
unfoldable pub sound_sizes : ℕ → ℕ → ℕ → ℕ → Bool
sound_sizes c buckets vacant held = ltb 0 c && leb c 256 && eqb buckets (bucket_count c) && leb vacant c && leb held c

-- "which is tested first in every call on a table"
abbrev pub sound : State → Bool
sound t = sound_sizes t.capacity t.index.buckets t.index.free_len t.eviction.len
