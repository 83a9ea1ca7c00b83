-- SPDX-License-Identifier: Apache-2.0
-- At a closed gate access begins no load. Assumes nothing.
use Prim.Native.Nat.{ℕ}
use mathlib.Core.Path.{◌≡◌, refl}
use mathlib.Core.Bool.{false}
use mathlib.Core.List.{List}
use lib.Dec.{eqb}
use lib.ListN.{length}
use Rattle.basics.specs.Try.{Try, ok, refuse, ◌>>=◌, ◌>>◌, need}
use Rattle.basics.specs.Refusals.{STOP, PINS}
use Rattle.key.specs.declared.CacheKey.{CacheKey}
use Rattle.state.specs.declared.State.{State}
use Rattle.state.specs.Answers.{Given, After, unless_refused}
use Rattle.state.specs.Fresh.{sound}
use Rattle.state.specs.Find.{Seen, found, waits, absent, Seek, seek}
use Rattle.state.specs.Access.{capacity_busy, reserve_at, choose, miss, access_seen, access}
use Rattle.passage.specs.Access.{access_through}
use Rattle.laws_gate.specs.Laws.{begins, LoadsNothing}

module _ (t : State) where
  -- a result that begins no load, refused or not
  abbrev Quiet : Try (After Given) → Type 0
  Quiet r = begins (unless_refused t r).answer ≡ false

  on : {A : Type 0} (x : Try A) (f : A → Try (After Given)) → ((a : A) → Quiet (f a)) → Quiet (x >>= f)
  unfolding begins
  on (ok a) f h = h a
  on (refuse n) f h = refl

  past : {A : Type 0} (x : Try A) (y : Try (After Given)) → Quiet y → Quiet (x >> y)
  unfolding begins
  past (ok a) y h = h
  past (refuse n) y h = refl

  seen : (u : State) (key : CacheKey) (pins : List ℕ) (s : Seen) → Quiet (access_seen u key false pins s)
  unfolding access_seen miss choose reserve_at capacity_busy begins
  seen u key pins (found slot) = refl
  seen u key pins waits = refl
  seen u key pins absent = refl

  quiet : (key : CacheKey) (pins : List ℕ) → begins (access t key false pins).answer ≡ false
  unfolding access
  quiet key pins =
      let step : Seek → Try (After Given) = λ (s : Seek). access_seen s.table key false pins s.seen in
      let walked = seek t key >>= step in
      let none = on (seek t key) step (λ s. seen s.table key pins s.seen) in
      past (need (sound t) STOP) (need (eqb (length pins) t.capacity) PINS >> walked)
      (past (need (eqb (length pins) t.capacity) PINS) walked none)

pub loads_nothing : LoadsNothing
unfolding access_through
loads_nothing t g key allow pins e = rw e (quiet t key pins)
