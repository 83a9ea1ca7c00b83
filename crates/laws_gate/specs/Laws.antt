-- SPDX-License-Identifier: Apache-2.0
-- Document 02, request 1, sentence by sentence, of every table and every gate.
use Rattle.std.specs.Prelude.{ℕ, ◌+◌, ◌≡◌, ◌⊎◌, Bool, true, false, List}
use Rattle.basics.specs.Try.{Try, ok, refuse}
use Rattle.basics.specs.Refusals.{EXHAUSTED}
use Rattle.basics.specs.Numbers.{MAX}
use Rattle.key.specs.declared.CacheKey.{CacheKey}
use Rattle.state.specs.declared.State.{State}
use Rattle.state.specs.Answers.{Given, hit, in_progress, reserved, evicted, busy}
use Rattle.maintenance_resize.specs.Answers.{Size, unchanged, busy_now, resized}
use Rattle.maintenance_resize.specs.Resize.{resize}
use Rattle.gate.specs.declared.Gate.{Gate}
use Rattle.gate.specs.Gate.{admits, stops}
use Rattle.passage.specs.Access.{access_through}
use Rattle.passage.specs.Resize.{stays, resize_through}

-- an answer that begins a load
unfoldable pub begins : Try Given → Bool
begins (ok (hit slot)) = false
begins (ok in_progress) = false
begins (ok (reserved k)) = true
begins (ok (evicted k)) = true
begins (ok busy) = false
begins (refuse n) = false

-- "While paused or pending, access loads nothing."
abbrev pub LoadsNothing : Type 0
LoadsNothing = (t : State) (g : Gate) (key : CacheKey) (allow : Bool) (pins : List ℕ)
    → admits g allow ≡ false → begins (access_through t g key allow pins).answer ≡ false

-- "Resize with a pause or a dirty page is Busy and changes nothing.", or refused by 10's first test or 1 to 4
abbrev pub StopsResize : Type 0
StopsResize = (t : State) (g : Gate) (asked : ℕ) (pins list : List ℕ) → stops g ≡ true
    → (resize_through t g asked pins list ≡ stays t list (ok busy_now) g) ⊎ ((n : ℕ) × (resize_through t g asked pins list ≡ stays t list (refuse n) g))

-- with no pause, no dirty page and the generation not spent, resize is document 01's: answer, table and list
abbrev pub OpenIsPlain : Type 0
OpenIsPlain = (t : State) (g : Gate) (asked : ℕ) (pins list : List ℕ) → stops g ≡ false → (g.generation ≡ MAX → ⊥)
    → (resize_through t g asked pins list).resizing ≡ resize t asked pins list

-- "Every refusal but that 7 leaves the gate as it was."
abbrev pub RefusalLeaves : Type 0
RefusalLeaves = (t : State) (g : Gate) (asked : ℕ) (pins list : List ℕ) (n : ℕ) → (resize_through t g asked pins list).resizing.answer ≡ refuse n
    → (n ≡ EXHAUSTED → ⊥) → (resize_through t g asked pins list).gate ≡ g

-- the mark after an answer that is not a refusal: cleared, or by a Busy set or left
unfoldable pub clears : Try Size → Bool
clears (ok unchanged) = true
clears (ok busy_now) = false
clears (ok (resized c)) = true
clears (refuse n) = false

-- "Resized and Unchanged clear it"
abbrev pub DoneClears : Type 0
DoneClears = (t : State) (g : Gate) (asked : ℕ) (pins list : List ℕ) → clears (resize_through t g asked pins list).resizing.answer ≡ true
    → (resize_through t g asked pins list).gate.pending ≡ false

-- what a resize leaves of a gate: pauses and dirty pages, and the generation or the next one
pub record Same (g h : Gate) : Type 0 where
  pub pauses : h.pauses ≡ g.pauses
  pub dirty : h.dirty ≡ g.dirty
  pub generation : (h.generation ≡ g.generation) ⊎ (h.generation ≡ g.generation + 1)

abbrev pub CountsOne : Type 0
CountsOne = (t : State) (g : Gate) (asked : ℕ) (pins list : List ℕ) → Same g (resize_through t g asked pins list).gate
