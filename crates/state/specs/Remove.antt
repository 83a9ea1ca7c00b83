-- SPDX-License-Identifier: Apache-2.0
-- "Removing counts an eviction; detaching does not."
use Rattle.std.specs.Prelude.{ℕ, ◌-◌, Bool, ltb}
use Rattle.basics.specs.Try.{Try, ok, ◌>>=◌, ◌>>◌, need}
use Rattle.basics.specs.Refusals.{STOP, SLOT, UNCLEAN}
use Rattle.basics.specs.Answers.{Fine, done}
use Rattle.index.specs.Free.{vacate}
use Rattle.eviction.specs.Heap.{remove_heap}
use Rattle.state.specs.declared.Counters.{Counters}
use Rattle.state.specs.declared.State.{State}
use Rattle.state.specs.Slots.{slot_at, is_clean, vacant_slot}
use Rattle.state.specs.Parts.{with_slot, with_index, with_heap, with_counters, with_held, count_eviction}
use Rattle.state.specs.Answers.{After, told, unless_refused}
use Rattle.state.specs.Fresh.{sound}

-- `detach_clean`: out of the heap and its chain, onto the stack. Its first two tests cannot fail behind `need_clean`; they can in reclaim and resize, where
-- the heap names the slot.
unfoldable pub detach_clean : State → ℕ → Try State
detach_clean t slot = do
  need (ltb slot t.capacity) STOP
  need (is_clean (slot_at t slot)) STOP
  h ← remove_heap t.capacity t.eviction slot
  ix ← vacate t.capacity t.index (slot_at t slot).key slot
  need (ltb 0 t.clean) STOP
  ok (with_held (with_heap (with_index (with_slot t slot vacant_slot) ix) h) (t.clean - 1) t.loading)

-- `remove_clean`
unfoldable pub remove_clean : State → ℕ → Try State
remove_clean t slot = do
  u ← detach_clean t slot
  ok (with_counters u (count_eviction u.counters))

-- 5 "slot to remove or detach not below the capacity", 8 "remove or detach names a slot that is not clean"
unfoldable pub need_clean : State → ℕ → Try Bool
need_clean t slot = do
  need (sound t) STOP
  need (ltb slot t.capacity) SLOT
  need (is_clean (slot_at t slot)) UNCLEAN

-- the slot's key leaves, with these counters after
unfoldable pub detach_counted : State → ℕ → Counters → After Fine
detach_counted t slot counters = unless_refused t do
  need_clean t slot
  u ← detach_clean t slot
  ok (told (with_counters u counters) done)

-- "Removing counts an eviction"
unfoldable pub remove : State → ℕ → After Fine
remove t slot = unless_refused t do
  need_clean t slot
  u ← remove_clean t slot
  ok (told u done)

-- "detaching does not"
unfoldable pub detach : State → ℕ → After Fine
detach t slot = unless_refused t do
  need_clean t slot
  u ← detach_clean t slot
  ok (told u done)
