-- SPDX-License-Identifier: Apache-2.0
-- The calls of demand 3 and their answers, and a list of them run on a machine.
use Rattle.std.specs.Prelude.{ℕ, Bool, List, [], ◌∷◌}
use Rattle.std.proofs.Math.Option.{Option}
use Rattle.basics.specs.Try.{Try}
use Rattle.basics.specs.Answers.{Fine}
use Rattle.key.specs.declared.CacheKey.{CacheKey}
use Rattle.state.specs.declared.State.{State}
use Rattle.state.specs.declared.LoadToken.{LoadToken}
use Rattle.state.specs.Answers.{Given, After}
use Rattle.state.specs.Access as TheAccess
use Rattle.state.specs.Tokens as TheTokens
use Rattle.state.specs.Lookup as TheLookup
use Rattle.state.specs.Remove as TheRemove
use Rattle.maintenance_resize.specs.Answers.{Size, Resizing}
use Rattle.maintenance_reclaim.specs.Answers.{Reclaiming}
use Rattle.maintenance_resize.specs.Resize as TheResize
use Rattle.maintenance_reclaim.specs.Reclaim as TheReclaim

-- what works out the eight calls: access, publish, abort, lookup, remove, detach, resize and reclaim. The reads hand back no table, so
-- "Reads may come between; they change nothing."
pub record Machine : Type 0 where
  pub access : State → CacheKey → Bool → List ℕ → After Given
  pub publish : State → LoadToken → After Fine
  pub abort : State → LoadToken → After Fine
  pub lookup : State → CacheKey → After (Option ℕ)
  pub remove : State → ℕ → After Fine
  pub detach : State → ℕ → After Fine
  pub resize : State → ℕ → List ℕ → List ℕ → Resizing
  pub reclaim : State → ℕ → List ℕ → Reclaiming

-- the calls as the rules have them, which the code is proved to do
abbrev pub rules : Machine
rules = record {
  access = TheAccess.access;
  publish = TheTokens.publish;
  abort = TheTokens.abort;
  lookup = TheLookup.lookup;
  remove = TheRemove.remove;
  detach = TheRemove.detach;
  resize = TheResize.resize;
  reclaim = TheReclaim.reclaim;
}

-- a call with its arguments
pub data Call : Type 0 where
  access : CacheKey → Bool → List ℕ → Call
  publish : LoadToken → Call
  abort : LoadToken → Call
  lookup : CacheKey → Call
  remove : ℕ → Call
  detach : ℕ → Call
  resize : ℕ → List ℕ → List ℕ → Call
  reclaim : ℕ → List ℕ → Call

-- a call with its answer: resize's has the lent list afterwards, reclaim's the count and the 64 numbers
pub data Event : Type 0 where
  accessed : CacheKey → Bool → List ℕ → Try Given → Event
  published : LoadToken → Try Fine → Event
  aborted : LoadToken → Try Fine → Event
  looked : CacheKey → Try (Option ℕ) → Event
  removed : ℕ → Try Fine → Event
  detached : ℕ → Try Fine → Event
  resized : ℕ → List ℕ → Try Size → List ℕ → Event
  reclaimed : ℕ → List ℕ → Try Fine → ℕ → List ℕ → Event

-- what a machine answers on a table
unfoldable pub event : Machine → State → Call → Event
event m t (access key allow pins) = accessed key allow pins (m.access t key allow pins).answer
event m t (publish k) = published k (m.publish t k).answer
event m t (abort k) = aborted k (m.abort t k).answer
event m t (lookup key) = looked key (m.lookup t key).answer
event m t (remove slot) = removed slot (m.remove t slot).answer
event m t (detach slot) = detached slot (m.detach t slot).answer
event m t (resize asked pins list) = resized asked pins (m.resize t asked pins list).answer (m.resize t asked pins list).list
event m t (reclaim limit pins) = reclaimed limit pins (m.reclaim t limit pins).answer (m.reclaim t limit pins).count (m.reclaim t limit pins).slots

-- the table that it leaves
unfoldable pub after : Machine → State → Call → State
after m t (access key allow pins) = (m.access t key allow pins).table
after m t (publish k) = (m.publish t k).table
after m t (abort k) = (m.abort t k).table
after m t (lookup key) = (m.lookup t key).table
after m t (remove slot) = (m.remove t slot).table
after m t (detach slot) = (m.detach t slot).table
after m t (resize asked pins list) = (m.resize t asked pins list).table
after m t (reclaim limit pins) = (m.reclaim t limit pins).table

-- a list of calls, each on the table that the last one left
unfoldable pub run : Machine → State → List Call → State
run m t [] = t
run m t (c ∷ cs) = run m (after m t c) cs

-- the calls of a list with their arguments and answers
unfoldable pub log : Machine → State → List Call → List Event
log m t [] = []
log m t (c ∷ cs) = event m t c ∷ log m (after m t c) cs
