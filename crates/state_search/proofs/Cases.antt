-- SPDX-License-Identifier: Apache-2.0
-- The walk along a chain, one step on and at its end; that find and peek_clean are such walks; and the use number of a touch. Assumes nothing.
use Rattle.std.proofs.Common.{if◌then◌else◌}
use Prim.Native.Nat.{ℕ, zero, suc, ◌+◌, ◌-◌, ◌≤◌, ◌<◌}
use mathlib.Core.Path.{◌≡◌, refl}
use mathlib.Core.Option.{some}
use native.Mathlib.Omega.{arith}
use lib.Dec.{leb, eqb}
use borrow.Author.Tests.{eqb-true, eqb-false, eq-eqb, ne_eqb, not-true}
use Rattle.basics.specs.Try.{Try, ok, refuse, ◌>>=◌}
use mathlib.Core.Bool.{Bool, not}
use Rattle.state.specs.declared.Slot.{Slot}
use Rattle.state_search.specs.Sought.{walk_from, walk_key, find_test, peek_test}
use Rattle.basics.specs.Refusals.{STOP, EXHAUSTED}
use Rattle.basics.specs.Numbers.{NONE, MAX}
use Rattle.basics.proofs.Tests.{yes!, no!, is, left_suc, met}
use Rattle.key.specs.declared.CacheKey.{CacheKey}
use Rattle.index.specs.Chain.{CHAIN, head_of, next_of, length_of, walked}
use Rattle.eviction.specs.declared.EvictionHeap.{EvictionHeap}
use Rattle.state.specs.declared.State.{State}
use Rattle.state.specs.Slots.{slot_at, occupied}
use Rattle.state.specs.Find.{ended, find_from, find_key, touch_next}
use Rattle.state.specs.Reads.{peek_from, peek_clean}

pub walk_step : (rule : Slot → Try Bool) (steps : ℕ) (t : State) (key : CacheKey) (s i : ℕ) → i < steps
    → walk_from rule (steps - i) t key s
    ≡ (if eqb s NONE then ended (length_of t.index key) (steps - i) else
    if leb t.capacity s then refuse STOP else
    (rule (slot_at t s) >>= λ here. if here then ok (some s) else walk_from rule (steps - (i + 1)) t key (next_of t.index s)))
unfolding walk_from
walk_step rule steps t key s i l = rw (left_suc steps i l)

pub walk_end : (rule : Slot → Try Bool) (n : ℕ) (t : State) (key : CacheKey) (s : ℕ) → n ≤ 0
    → walk_from rule n t key s ≡ (if eqb s NONE then ended (length_of t.index key) 0 else refuse STOP)
unfolding walk_from
walk_end rule zero t key s l = refl
walk_end rule (suc n) t key s l = absurd (omega arith)

find_from_walk : (n : ℕ) (t : State) (key : CacheKey) (s : ℕ) → walk_from (find_test key) n t key s ≡ find_from n t key s
unfolding walk_from find_from find_test
find_from_walk zero t key s = refl
find_from_walk (suc n) t key s = elim (is (occupied (slot_at t s))) [
  | no! v ↦ rw v
  | yes! v ↦ rw (v, find_from_walk n t key (next_of t.index s))
]

peek_from_walk : (n : ℕ) (t : State) (key : CacheKey) (s : ℕ) → walk_from (peek_test key) n t key s ≡ peek_from n t key s
unfolding walk_from peek_from peek_test
peek_from_walk zero t key s = refl
peek_from_walk (suc n) t key s = rw (peek_from_walk n t key (next_of t.index s))

pub find_walk : (t : State) (key : CacheKey) → walk_key (find_test key) t key ≡ find_key t key
unfolding walk_key find_key
find_walk t key = rw (find_from_walk CHAIN t key (head_of t.index key))

pub peek_walk : (t : State) (key : CacheKey) → walk_key (peek_test key) t key ≡ peek_clean t key
unfolding walk_key peek_clean
peek_walk t key = rw (peek_from_walk CHAIN t key (head_of t.index key))

-- the length kept is what was walked where the steps that are left say so
pub walked_all : (kept steps : ℕ) → steps ≤ CHAIN → walked kept (CHAIN - steps) ≡ eqb kept steps
unfolding walked
walked_all kept steps h =
    elim (is (eqb kept steps)) [
      | yes! e ↦ rw e (eq-eqb (kept + (CHAIN - steps)) CHAIN (omega (arith, eqb-true kept steps e)))
      | no! e ↦ rw e (ne_eqb (kept + (CHAIN - steps)) CHAIN (λ q. eqb-false kept steps e (omega arith)))
    ]

-- a touch that went on had a next use number
pub touched_next : (c : ℕ) (h : EvictionHeap) (slot last : ℕ) {k : EvictionHeap} → touch_next c h slot last ≡ ok k → last ≡ MAX → ⊥
unfolding touch_next
touched_next c h slot last {k} e = eqb-false last MAX (not-true (eqb last MAX) (met (not (eqb last MAX)) EXHAUSTED _ k e).0)
