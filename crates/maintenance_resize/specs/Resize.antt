-- SPDX-License-Identifier: Apache-2.0
-- "Resize is `maintain_capacity` after its gate, one step."
use Rattle.std.specs.Prelude.{ℕ, Bool, ◌&&◌, List, ltb, eqb, length, replicate, if◌then◌else◌}
use Rattle.std.proofs.Math.Option.{Option, none, some}
use Rattle.basics.specs.Try.{Try, ok, refuse, ◌>>=◌, ◌>>◌, need}
use Rattle.basics.specs.Answers.{Fine, done}
use Rattle.basics.specs.Refusals.{STOP, PINS, LIST, UNCLEAN}
use Rattle.basics.specs.Numbers.{NONE}
use Rattle.state.specs.declared.State.{State}
use Rattle.basics.specs.Capacity.{need_capacity}
use Rattle.state.specs.Fresh.{fresh, sound}
use Rattle.maintenance_resize.specs.Answers.{Size, unchanged, busy_now, resized, Resizing}
use Rattle.maintenance_restore.specs.Pins.{pins_clean, raised}
use Rattle.maintenance_restore.specs.Restore.{candidate}
use Rattle.maintenance_resize.specs.Move.{inherit, remake}

-- the table, the answer and the list
abbrev pub listed : State → Size → List ℕ → Resizing
listed t a list = record { table = t; answer = ok a; list = list }

-- "Unchanged, Busy and refusals touch neither it nor the table."
abbrev pub unless_refused : State → List ℕ → Try Resizing → Resizing
unless_refused t list (ok r) = r
unless_refused t list (refuse n) = record { table = t; answer = refuse n; list = list }

-- "No clean slot and shrinking: a fresh table"; document 02, request 7: "counts and counters carry over in that case too"
unfoldable pub fresh_start : State → ℕ → Resizing
fresh_start old c = listed (inherit (fresh c) old) (resized c) (replicate old.capacity NONE)

-- "else Busy"
unfoldable pub remake_or_busy : State → List ℕ → Option State → Try Resizing
remake_or_busy old list none = ok (listed old busy_now list)
remake_or_busy old list (some new) = remake old new

-- from the raised capacity on: "equal to old: Unchanged"
unfoldable pub resize_to : State → List ℕ → List ℕ → ℕ → Try Resizing
resize_to t pins list c =
    if eqb c t.capacity then ok (listed t unchanged list) else
    if eqb t.clean 0 && ltb c t.capacity then ok (fresh_start t c) else do
      new ← candidate 9 t pins (ltb c t.capacity) c
      remake_or_busy t list new

-- "Asked equals old: Unchanged. Any loading: Busy."; 8 comes "after Unchanged and Busy for equal capacity and loading"
unfoldable pub resize_steps : State → ℕ → List ℕ → List ℕ → Try Resizing
resize_steps t asked pins list =
    if eqb asked t.capacity then ok (listed t unchanged list) else
    if ltb 0 t.loading then ok (listed t busy_now list) else do
      need (pins_clean t.capacity t pins 0) UNCLEAN
      resize_to t pins list (raised asked pins)

-- "The gate stands after 10's first test and 1 to 5.": those tests of resize, with so many pin bytes and places of the list
unfoldable pub need_input_of : ℕ → Bool → ℕ → ℕ → ℕ → Try Fine
need_input_of capacity sound? asked pins list = do
  need sound? STOP
  need_capacity asked
  need (eqb pins capacity) PINS
  need (eqb list capacity) LIST
  ok done

abbrev pub need_input : State → ℕ → ℕ → ℕ → Try Fine
need_input t asked pins list = need_input_of t.capacity (sound t) asked pins list

-- "that first test of 10, then 1 to 5 by number, then the steps"
unfoldable pub resize : State → ℕ → List ℕ → List ℕ → Resizing
resize t asked pins list = unless_refused t list do
  need (sound t) STOP
  need_capacity asked
  need (eqb (length pins) t.capacity) PINS
  need (eqb (length list) t.capacity) LIST
  resize_steps t asked pins list
