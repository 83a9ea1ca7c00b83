-- SPDX-License-Identifier: Apache-2.0
-- Resize through the gate.
use Rattle.std.specs.Prelude.{true, false, ℕ, List, ltb, eqb, length, if◌then◌else◌}
use Rattle.basics.specs.Try.{Try, ok, refuse}
use Rattle.basics.specs.Answers.{Fine, done}
use Rattle.basics.specs.Refusals.{EXHAUSTED}
use Rattle.basics.specs.Numbers.{MAX}
use Rattle.state.specs.declared.State.{State}
use Rattle.maintenance_resize.specs.Answers.{Size, unchanged, busy_now, resized, Resizing, maintained_after}
use Rattle.maintenance_resize.specs.Resize.{resize}
-- the tests of the input, which are resize's own: the crates above name them from here
pub use Rattle.maintenance_resize.specs.Resize.{need_input}
unfoldable pub use Rattle.maintenance_resize.specs.Resize.{need_input_of}
use Rattle.gate.specs.declared.Gate.{Gate}
use Rattle.passage.specs.declared.Passed.{Passed}
use Rattle.gate.specs.Gate.{stops, marked, counted}

-- table, answer and list after resize, and the gate after it
pub record Passing : Type 0 where
  pub resizing : Resizing
  pub gate : Gate

abbrev pub passing_of : Resizing → Gate → Passing
passing_of r g = record { resizing = r; gate = g }

-- what the code hands back, read so; `list` is what the lent list holds afterwards
abbrev pub passed_after : Passed → List ℕ → Passing
passed_after r list = passing_of (maintained_after r.outcome list) r.gate

-- the gate by the answer of an attempt: "Every other attempt adds 1 to the generation, undone if 8 or 10 refuses it later"; "Resized and Unchanged
-- clear it, a later Busy leaves it"
unfoldable pub attempted : Gate → Try Size → Gate
attempted g (ok unchanged) = marked false (counted g)
attempted g (ok busy_now) = counted g
attempted g (ok (resized c)) = marked false (counted g)
attempted g (refuse n) = g

-- document 01's resize, with the gate by its answer
unfoldable pub attempt_rule : State → Gate → ℕ → List ℕ → List ℕ → Passing
attempt_rule t g asked pins list = passing_of (resize t asked pins list) (attempted g (resize t asked pins list).answer)

-- with the table and the list untouched
abbrev pub stays : State → List ℕ → Try Size → Gate → Passing
stays t list a g = passing_of (record { table = t; answer = a; list = list }) g

-- past the tests of the input
unfoldable pub pass_steps : State → Gate → ℕ → List ℕ → List ℕ → Passing
pass_steps t g asked pins list =
    -- "Resize with a pause or a dirty page is Busy and changes nothing."
    if stops g then stays t list (ok busy_now) g else
    -- "Equal capacity clears the mark"
    if eqb asked t.capacity then stays t list (ok unchanged) (marked false g) else
    -- "a table with loads sets it and is Busy"
    if ltb 0 t.loading then stays t list (ok busy_now) (marked true g) else
    -- "with the generation spent the answer is 7 and the mark is cleared"
    if eqb g.generation MAX then stays t list (refuse EXHAUSTED) (marked false g) else
    attempt_rule t g asked pins list

-- "Every refusal but that 7 leaves the gate as it was."
abbrev pub or_refused : State → Gate → List ℕ → Try Fine → Passing → Passing
or_refused t g list (ok done) p = p
or_refused t g list (refuse n) p = stays t list (refuse n) g

-- resize as it goes through the gate
unfoldable pub resize_through : State → Gate → ℕ → List ℕ → List ℕ → Passing
resize_through t g asked pins list = or_refused t g list (need_input t asked (length pins) (length list)) (pass_steps t g asked pins list)
