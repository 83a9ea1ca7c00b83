-- SPDX-License-Identifier: Apache-2.0
-- How many clean slots there are from a slot on: from 0 on all of them, behind a clean slot one less, and behind the last none. Assumes nothing.
use Prim.Native.Nat.{ℕ, ◌+◌, ◌<◌}
use native.Mathlib.Omega.{arith}
use mathlib.Core.Path.{◌≡◌, sym, ◌∙◌}
use mathlib.Core.Bool.{Bool, false, ◌&&◌}
use mathlib.Core.List.{[]}
use lib.Dec.{leb, eqb}
use borrow.Author.Tests.{eqb-true, eqb-false, leb-true, leb-false, le-leb, lt-leb}
use Rattle.basics.specs.Lists.{down}
use Rattle.basics.specs.Counts.{bit, count}
use Rattle.basics.proofs.Tests.{yes!, no!, is, and_left}
use Rattle.basics.proofs.Maps.{put}
use Rattle.basics.proofs.Members.{in_none}
use Rattle.basics.proofs.Keeps.{count_agree, count_put, count_list}
use Rattle.state.specs.declared.State.{State}
use Rattle.state.specs.Slots.{slot_at, is_clean}
use Rattle.laws_table.specs.Table.{Inv}

abbrev clean_from : State → ℕ → ℕ → Bool
clean_from o k x = leb k x && is_clean (slot_at o x)

-- the clean slots from k on
pub ahead : State → ℕ → ℕ
ahead o k = count (clean_from o k) (down o.capacity)

pub all_ahead : (o : State) → Inv o → ahead o 0 ≡ o.clean
unfolding ahead
all_ahead o v = count_agree (clean_from o 0) (λ (x : ℕ). is_clean (slot_at o x)) (down o.capacity) (λ x m. rw (le-leb 0 x (omega arith))) ∙ sym v.clean

pub none_ahead : (o : State) → ahead o o.capacity ≡ 0
unfolding ahead
none_ahead o =
    count_list (clean_from o o.capacity) o.capacity [] tt (λ x i. absurd (in_none i))
    (λ x hx e. absurd (omega (arith, leb-true o.capacity x (and_left (leb o.capacity x) (is_clean (slot_at o x)) e))))

pub next_ahead : (o : State) (k : ℕ) → k < o.capacity → ahead o (k + 1) + bit (is_clean (slot_at o k)) ≡ ahead o k
unfolding ahead
next_ahead o k hk =
    let here : bit (clean_from o k k) ≡ bit (is_clean (slot_at o k)) = rw (le-leb k k (omega arith)) in
    omega (arith, count_put (clean_from o k) false k o.capacity hk, count_agree (clean_from o (k + 1)) (put k false (clean_from o k)) (down o.capacity) (λ x m. behind x))
  where
    behind : (x : ℕ) → clean_from o (k + 1) x ≡ put k false (clean_from o k) x
    behind x =
        elim (is (eqb x k)) [
          | yes! e ↦ let q = eqb-true x k e in rw (e, lt-leb (k + 1) x (omega arith))
          | no! e ↦ elim (is (leb k x)) [
            | yes! q ↦ rw (e, q, le-leb (k + 1) x (omega (arith, eqb-false x k e, leb-true k x q)))
            | no! q ↦ rw (e, q, lt-leb (k + 1) x (omega (arith, leb-false k x q)))
          ]
        ]
