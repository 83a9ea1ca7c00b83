-- SPDX-License-Identifier: Apache-2.0
-- What the proofs of `insert` and `remove` need: a length that may grow, the walk one step on and at its end, and the place that links to a slot.
-- Assumes nothing.
use Rattle.std.proofs.Common.{if◌then◌else◌}
use Rattle.std.specs.Prelude.{Option, None, Some}
use Prim.Native.Nat.{ℕ, zero, suc, ◌+◌, ◌-◌, ◌≤◌, ◌<◌}
use native.Mathlib.Omega.{arith}
use mathlib.Core.Path.{◌≡◌, refl, sym}
use mathlib.Core.Bool.{true}
use lib.Dec.{ltb, leb, eqb}
use borrow.Author.Tests.{ltb-true}
use Rattle.basics.specs.Try.{ok, refuse}
use Rattle.basics.specs.Refusals.{STOP}
use Rattle.basics.specs.Numbers.{NONE}
use Rattle.basics.proofs.Tests.{met, ok_same, left_suc}
use Rattle.index.specs.declared.Index.{Index}
use Rattle.key.specs.declared.CacheKey.{CacheKey}
use Rattle.index.specs.Chain.{CHAIN, sized, next_of, length_of, can_insert, unlinked, remove_from}

-- a chain with room keeps a length below 64
pub room_left : (c : ℕ) (ix : Index) (key : CacheKey) → ok true ≡ can_insert c ix key → length_of ix key < CHAIN
unfolding can_insert
room_left c ix key e = ltb-true (length_of ix key) CHAIN (ok_same (met (sized c ix) STOP (ok (ltb (length_of ix key) CHAIN)) true (sym e)).1)

-- the walk, one step on; the same at a step of the loop, which counts up; and at its end
pub remove_step : (n c : ℕ) (ix : Index) (b target p s : ℕ) → 0 < n
    → remove_from n c ix b target p s ≡ (if leb c s then refuse STOP else if eqb s target then ok (unlinked ix b p s) else remove_from (n - 1) c ix b target s (next_of ix s))
unfolding remove_from
remove_step zero c ix b target p s l = absurd (omega arith)
remove_step (suc n) c ix b target p s l = let e : suc n - 1 ≡ n = omega arith in rw e

pub remove_place : (steps c : ℕ) (ix : Index) (b target p s i : ℕ) → i < steps
    → remove_from (steps - i) c ix b target p s
    ≡ (if leb c s then refuse STOP else if eqb s target then ok (unlinked ix b p s) else remove_from (steps - (i + 1)) c ix b target s (next_of ix s))
unfolding remove_from
remove_place steps c ix b target p s i l = rw (left_suc steps i l)

pub remove_end : (n c : ℕ) (ix : Index) (b target p s : ℕ) → n ≤ 0 → remove_from n c ix b target p s ≡ refuse STOP
unfolding remove_from
remove_end zero c ix b target p s l = refl
remove_end (suc n) c ix b target p s l = absurd (omega arith)

-- the place that links to a slot of the walk, as the rule writes it
abbrev pub place_of : Option ℕ → ℕ
place_of None = NONE
place_of (Some place) = place
