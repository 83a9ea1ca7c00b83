-- SPDX-License-Identifier: Apache-2.0
-- `insert`, `touch` and `remove` of the heap. `c` is the capacity.
use Rattle.std.specs.Prelude.{ℕ, ◌+◌, ◌-◌, ◌&&◌, ltb, eqb, set, if◌then◌else◌}
use Rattle.basics.specs.Try.{Try, ok, ◌>>=◌, ◌>>◌, need}
use Rattle.basics.specs.Refusals.{STOP}
use Rattle.basics.specs.Numbers.{NONE}
use Rattle.eviction.specs.declared.Entry.{Entry}
use Rattle.eviction.specs.declared.EvictionHeap.{EvictionHeap}
use Rattle.eviction.specs.Entries.{heap_of, entry_of, at, pos_of, sized}
use Rattle.eviction.specs.Sift.{up_to, sift_up, sift_down}

-- `insert`: the slot goes in at the end, and up from there
unfoldable pub insert_heap : ℕ → EvictionHeap → ℕ → ℕ → Try EvictionHeap
insert_heap c h slot n = do
  need (sized c h) STOP
  need (ltb slot c && eqb (pos_of h slot) NONE && ltb h.len c) STOP
  sift_up c (heap_of (set h.entries h.len (entry_of slot n)) (h.len + 1) (set h.positions slot h.len)) h.len

-- `position`: the place of a slot, whose entry names the slot
unfoldable pub place_of : ℕ → EvictionHeap → ℕ → Try ℕ
place_of c h slot = do
  need (sized c h) STOP
  need (ltb slot c && ltb (pos_of h slot) h.len && eqb (at h (pos_of h slot)).slot slot) STOP
  ok (pos_of h slot)

-- `touch`: "Touch needs a greater last use."
unfoldable pub touch_at : ℕ → EvictionHeap → ℕ → ℕ → ℕ → Try EvictionHeap
touch_at c h slot p n = do
  need (ltb (at h p).last_access n) STOP
  sift_down c (heap_of (set h.entries p (entry_of slot n)) h.len h.positions) p

-- `touch`, from where the slot stands
unfoldable pub touch_heap : ℕ → EvictionHeap → ℕ → ℕ → Try EvictionHeap
touch_heap c h slot n = do
  p ← place_of c h slot
  touch_at c h slot p n

-- the last entry taken off and the slot without a place: "A place given up at the end of stack or heap becomes 0"
unfoldable pub popped : EvictionHeap → ℕ → EvictionHeap
popped h slot = heap_of (set h.entries (h.len - 1) (entry_of 0 0)) (h.len - 1) (set h.positions slot NONE)

-- an entry put at a place
unfoldable pub put_at : EvictionHeap → ℕ → Entry → EvictionHeap
put_at h p e = heap_of (set h.entries p e) h.len (set h.positions e.slot p)

-- up where it is older than its parent, else down
unfoldable pub settle : ℕ → EvictionHeap → ℕ → Try EvictionHeap
settle c h p = if eqb (up_to h p) p then sift_down c h p else sift_up c h p

-- `remove`: the last entry takes the slot's place, and moves up or down from there
unfoldable pub remove_at : ℕ → EvictionHeap → ℕ → ℕ → Try EvictionHeap
remove_at c h slot p =
    if eqb p (h.len - 1) then ok (popped h slot) else do
      need (ltb (at h (h.len - 1)).slot c) STOP
      settle c (put_at (popped h slot) p (at h (h.len - 1))) p

-- `remove`, from where the slot stands: every removal from the heap is this one
unfoldable pub remove_heap : ℕ → EvictionHeap → ℕ → Try EvictionHeap
remove_heap c h slot = do
  p ← place_of c h slot
  remove_at c h slot p
