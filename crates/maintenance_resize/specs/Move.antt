-- SPDX-License-Identifier: Apache-2.0
-- "Then oldest unpinned keys are removed until the rest fits, the rest restored in old slot order, those refused by a chain removed, and counts and
-- counters carried over."
use Rattle.std.specs.Prelude.{ℕ, zero, suc, ◌-◌, not, List, ltb, leb, set, replicate, if◌then◌else◌}
use Rattle.std.proofs.Math.Option.{Option, none, some}
use Rattle.basics.specs.Try.{Try, ok, refuse, ◌>>=◌, ◌>>◌, need}
use Rattle.basics.specs.Refusals.{STOP}
use Rattle.basics.specs.Numbers.{NONE}
use Rattle.basics.specs.Lists.{each_slot}
use Rattle.eviction.specs.Entries.{at}
use Rattle.state.specs.declared.State.{State}
use Rattle.state.specs.Slots.{slot_at, is_clean}
use Rattle.state.specs.Parts.{with_numbers, with_counters}
use Rattle.state.specs.Remove.{detach_clean, remove_clean}
use Rattle.state.specs.Reads.{peek_clean}
use Rattle.maintenance_resize.specs.Answers.{resized, Resizing}
use Rattle.maintenance_restore.specs.Restore.{restore}

-- the two tables, and the lent list as it will be
pub record Moving : Type 0 where
  pub old : State
  pub new : State
  pub list : List ℕ

abbrev pub moving_of : State → State → List ℕ → Moving
moving_of old new list = record { old = old; new = new; list = list }

-- "a lent list of 16-bit numbers, one for each old slot, gets the new slot, or 65535": a key that the new table has leaves the old one
unfoldable pub leave_to : ℕ → Moving → Option ℕ → Try Moving
leave_to slot m none = ok m
leave_to slot m (some to) = do
  left ← detach_clean m.old slot
  ok (moving_of left m.new (set m.list slot to))

-- the first `for`: a clean slot whose key `peek_clean` finds in the new table
unfoldable pub leave_pinned : ℕ → Moving → Try Moving
leave_pinned slot m =
    if not (is_clean (slot_at m.old slot)) then ok m else do
      to ← peek_clean m.new (slot_at m.old slot).key
      leave_to slot m to

-- "oldest unpinned keys are removed until the rest fits"; the heap has at most 256 to remove
unfoldable pub drop_oldest : ℕ → Moving → Try Moving
drop_oldest zero m = refuse STOP
drop_oldest (suc left) m =
    if leb m.old.clean (m.new.capacity - m.new.clean) then ok m else do
      need (ltb 0 m.old.eviction.len) STOP
      u ← remove_clean m.old (at m.old.eviction 0).slot
      drop_oldest left (moving_of u m.new m.list)

-- "the rest restored in old slot order": a key that the new table has not, where a chain takes it
unfoldable pub keep_new : Moving → Option State → Moving
keep_new m none = m
keep_new m (some u) = moving_of m.old u m.list

-- not where the new table has the key already
unfoldable pub restore_unless : ℕ → Moving → Option ℕ → Try Moving
restore_unless slot m (some to) = ok m
restore_unless slot m none = do
  u ← restore m.new (slot_at m.old slot).key (slot_at m.old slot).last_access
  ok (keep_new m u)

-- the second `for`
unfoldable pub restore_rest : ℕ → Moving → Try Moving
restore_rest slot m =
    if not (is_clean (slot_at m.old slot)) then ok m else do
      to ← peek_clean m.new (slot_at m.old slot).key
      restore_unless slot m to

-- "those refused by a chain removed"
unfoldable pub move_or_remove : ℕ → Moving → Option ℕ → Try Moving
move_or_remove slot m (some to) = ok (moving_of m.old m.new (set m.list slot to))
move_or_remove slot m none = do
  u ← remove_clean m.old slot
  ok (moving_of u m.new m.list)

-- the third `for`
unfoldable pub move_rest : ℕ → Moving → Try Moving
move_rest slot m =
    if not (is_clean (slot_at m.old slot)) then ok m else do
      to ← peek_clean m.new (slot_at m.old slot).key
      move_or_remove slot m to

-- `inherit_history`: "counts and counters carried over"
unfoldable pub inherit : State → State → State
inherit new old = with_counters (with_numbers new old.next_load_generation old.next_access_sequence) old.counters

-- the steps of a remaking, from the new table with the pinned keys
unfoldable pub remake : State → State → Try Resizing
remake old new = do
  a ← each_slot leave_pinned old.capacity 0 (moving_of old new (replicate old.capacity NONE))
  b ← drop_oldest 257 a
  c ← each_slot restore_rest old.capacity 0 b
  d ← each_slot move_rest old.capacity 0 c
  ok (record { table = inherit d.new d.old; answer = ok (resized d.new.capacity); list = d.list })
