-- SPDX-License-Identifier: Apache-2.0
-- Document 02, request 6: what a resize will cost, told without doing it.
use Rattle.std.specs.Prelude.{ℕ, zero, suc, ◌+◌, ◌&&◌, List, ltb, eqb, get_or, replicate, if◌then◌else◌}
use Rattle.std.proofs.Math.Option.{Option, none, some}
use Rattle.basics.specs.Try.{Try, ok, refuse, ◌>>=◌}
use Rattle.basics.specs.Numbers.{NONE}
use Rattle.basics.specs.Lists.{down, each_slot}
use Rattle.basics.specs.Counts.{count}
use Rattle.state.specs.declared.State.{State}
use Rattle.state.specs.Slots.{slot_at, is_clean}
use Rattle.state.specs.Reads.{peek_clean}
use Rattle.maintenance_restore.specs.Pins.{raised}
use Rattle.maintenance_restore.specs.Restore.{candidate}
use Rattle.maintenance_restore.specs.Tries.{tries_on, tries_if, tries_candidate}
use Rattle.maintenance_resize.specs.Answers.{Size, unchanged, busy_now, resized, size_answer}
use Rattle.maintenance_resize.specs.declared.ResizeCost.{ResizeCost}
use Rattle.maintenance_resize.specs.Move.{Moving, moving_of, leave_pinned, drop_oldest, restore_rest}
use Rattle.maintenance_resize.specs.Resize.{resize}

-- ---- "how many restores it will try, failed attempts included", by document 01's steps

-- a key that the new table has not is tried, also where it is refused
abbrev pub tries_slot : Try (Option ℕ) → ℕ
tries_slot (ok none) = 1
tries_slot (ok (some to)) = 0
tries_slot (refuse n) = 0

-- "the rest": the clean slots left of the old table, from `slot` on
unfoldable pub tries_rest : ℕ → ℕ → Moving → ℕ
tries_rest zero slot m = 0
tries_rest (suc left) slot m =
    (if is_clean (slot_at m.old slot) then tries_slot (peek_clean m.new (slot_at m.old slot).key) else 0)
    + tries_on (restore_rest slot m) (tries_rest left (slot + 1))

-- the steps of a remaking up to the rest, and the rest
unfoldable pub tries_remaking : State → State → ℕ
tries_remaking old new =
    tries_on (each_slot leave_pinned old.capacity 0 (moving_of old new (replicate old.capacity NONE)) >>= drop_oldest 257) (tries_rest old.capacity 0)

-- from the raised capacity on: none where it is the old one, none where an emptied table shrinks
unfoldable pub tries_to : State → List ℕ → ℕ → ℕ
tries_to t pins c =
    if eqb c t.capacity then 0 else
    if eqb t.clean 0 && ltb c t.capacity then 0 else
    tries_candidate 9 t pins (ltb c t.capacity) c
    + tries_on (candidate 9 t pins (ltb c t.capacity) c) (λ new. tries_if new (tries_remaking t))

-- none where the asked capacity is the old one, none with loads
unfoldable pub restores_of : State → ℕ → List ℕ → ℕ
restores_of t asked pins =
    if eqb asked t.capacity then 0 else
    if ltb 0 t.loading then 0 else
    tries_to t pins (raised asked pins)

-- ---- the whole

-- "how many keys it will drop": the clean slots to which resize's list gives 65535
unfoldable pub dropped : State → List ℕ → ℕ
dropped t list = count (λ s. is_clean (slot_at t s) && eqb (get_or list s NONE) NONE) (down t.capacity)

-- "the answer of resize, the capacity it will end with, how many keys it will drop and how many restores it will try"
pub record Costs : Type 0 where
  pub answer : Try Size
  pub capacity : ℕ
  pub drops : ℕ
  pub restores : ℕ

abbrev pub costs_of : Try Size → ℕ → ℕ → ℕ → Costs
costs_of a c d n = record { answer = a; capacity = c; drops = d; restores = n }

-- what the code hands back, read so
abbrev pub told : ResizeCost → Costs
told r = costs_of (size_answer r.answer) r.capacity r.drops r.restores

-- "Where nothing is remade the capacity is the old one and drops are 0; a Busy over chains still gives the restores tried. A refusal gives 0 for all
-- three.": by the answer and the list of a resize of t, and the restores that it tries
abbrev pub by_answer : State → List ℕ → ℕ → Try Size → Costs
by_answer t list n (ok unchanged) = costs_of (ok unchanged) t.capacity 0 n
by_answer t list n (ok busy_now) = costs_of (ok busy_now) t.capacity 0 n
by_answer t list n (ok (resized c)) = costs_of (ok (resized c)) c (dropped t list) n
by_answer t list n (refuse m) = costs_of (refuse m) 0 0 0

-- "Answer, capacity and drops shall equal what resize then does on that table and pins": told by resize's own rule, with some list of the right length.
-- "Refusals are resize's own but 4."; the gate is not in it
unfoldable pub cost : State → ℕ → List ℕ → Costs
cost t asked pins =
    let r = resize t asked pins (replicate t.capacity 0) in
    by_answer t r.list (restores_of t asked pins) r.answer
