-- SPDX-License-Identifier: Apache-2.0
-- What resize comes to on a table with the invariant: every answer, and what it leaves; 7 and 10 are none of them.
use Rattle.std.specs.Prelude.{ℕ, ◌<◌, ◌≡◌, ◌⊎◌, List}
use Rattle.basics.specs.Try.{Try, ok, refuse}
use Rattle.basics.specs.Refusals.{STOP, EXHAUSTED}
use Rattle.state.specs.declared.State.{State}
use Rattle.maintenance_resize.specs.Answers.{Size, unchanged, busy_now, resized, Resizing}
use Rattle.maintenance_restore.specs.Pins.{raised}
use Rattle.maintenance_resize.specs.Resize.{listed, resize}
use Rattle.laws_table.specs.Table.{Valid}
use Rattle.laws_maintenance.specs.Drawn.{Chokes}
use Rattle.laws_maintenance.specs.Remade.{Remade}

pub data ResizeOutcome (t : State) (asked : ℕ) (pins list : List ℕ) (r : Resizing) : Type 0 where
  -- "Unchanged, Busy and refusals touch neither it nor the table."
  refused! : (n : ℕ) → r ≡ record { table = t; answer = refuse n; list = list } → (n ≡ STOP → ⊥) → (n ≡ EXHAUSTED → ⊥)
      → ResizeOutcome t asked pins list r
  unchanged! : r ≡ listed t unchanged list → (asked ≡ t.capacity) ⊎ (raised asked pins ≡ t.capacity) → ResizeOutcome t asked pins list r
  -- "Any loading: Busy"; or a chain refuses a pinned key, which growing never meets
  busy! : r ≡ listed t busy_now list
      → (0 < t.loading) ⊎ ((raised asked pins < t.capacity) × Chokes t pins (raised asked pins))
      → ResizeOutcome t asked pins list r
  -- the raised capacity is the one made, never a doubled one; an emptied table is remade like any other
  remade! : Remade t pins r → r.table.capacity ≡ raised asked pins → ResizeOutcome t asked pins list r

-- what a resize leaves: a valid table, and an answer that is not 10
pub record ResizeKept (r : Resizing) : Type 0 where
  pub valid : Valid r.table
  pub runs : r.answer ≡ refuse STOP → ⊥

-- "Unchanged, Busy and refusals touch neither it nor the table.", whatever the table: by the answer of a resize
abbrev pub Untouched : State → List ℕ → Resizing → Try Size → Type 0
Untouched t list r (ok unchanged) = (r.table ≡ t) × (r.list ≡ list)
Untouched t list r (ok busy_now) = (r.table ≡ t) × (r.list ≡ list)
Untouched t list r (ok (resized c)) = Unit {0}
Untouched t list r (refuse n) = (r.table ≡ t) × (r.list ≡ list)

abbrev pub ResizeTouches : Type 0
ResizeTouches = (t : State) (asked : ℕ) (pins list : List ℕ) → Untouched t list (resize t asked pins list) (resize t asked pins list).answer
