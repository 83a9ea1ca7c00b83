-- SPDX-License-Identifier: Apache-2.0
-- One attempt tries each pinned key once, up to and with one that is refused, on every table. Assumes nothing.
use Prim.Native.Nat.{ℕ, zero, suc, ◌+◌, ◌/◌, ◌<◌}
use native.Mathlib.Omega.{arith}
use mathlib.Core.Path.{◌≡◌, refl, sym, subst}
use mathlib.Core.Bool.{true, false}
use mathlib.Core.List.{List}
use mathlib.Core.Option.{Option, none, some}
use lib.ListN.{length, drop, length-drop}
use borrow.Author.Tests.{lt-ltb}
use Rattle.basics.specs.Try.{Try, ok}
use Rattle.basics.proofs.Tests.{yes!, no!, is, refuse_ok}
use Rattle.eviction.specs.Victim.{unpinned}
use Rattle.state.specs.declared.State.{State}
use Rattle.state.specs.Slots.{slot_at}
use Rattle.maintenance_restore.specs.Pins.{pin_count}
use Rattle.maintenance_restore.specs.Restore.{restore, restore_pinned}
use Rattle.maintenance_restore.specs.Tries.{tries_pinned, tries_candidate}
use Rattle.laws_maintenance.proofs.PinBytes.{pin_most, pin_skip, pin_here}
use Rattle.laws_cost.specs.Laws.{StoppedAt, AttemptTries, FailedIncluded}
use Rattle.laws_cost.proofs.Restored.{refused!, none!, some!, got, no_some}

module _ (old : State) (pins : List ℕ) where
  -- behind the last slot there is no pin
  pub no_pins : (k : ℕ) → k + 0 ≡ length pins → pin_count (drop k pins) ≡ 0
  no_pins k e = omega (arith, pin_most (drop k pins), length-drop k pins)

  -- all pins from the slot k on are tried
  all_tried : (left k : ℕ) (t u : State) → k + left ≡ length pins → restore_pinned left old pins k t ≡ ok (some u)
      → tries_pinned left old pins k t ≡ pin_count (drop k pins)
  unfolding restore_pinned tries_pinned
  all_tried zero k t u l e = omega (arith, no_pins k l)
  all_tried (suc left) k t u l e =
      elim (is (unpinned pins k)) [
        | yes! p ↦ rw p (omega (arith, all_tried left (k + 1) t u (omega arith) (rw p at e), pin_skip pins k (omega arith) p))
        | no! p ↦ elim (got (restore t (slot_at old k).key (slot_at old k).last_access)) [
          | refused! n q ↦ absurd (refuse_ok (rw (p, q) at e))
          | none! q ↦ absurd (no_some (rw (p, q) at e))
          | some! v q ↦ rw (p, q) (omega (arith, all_tried left (k + 1) v u (omega arith) (rw (p, q) at e), pin_here pins k (omega arith) p))
        ]
      ]

  -- an attempt from the slot k on that stops at another, so many slots on
  record Stops (left k : ℕ) (t : State) : Type 0 where
    pub slot : ℕ
    pub steps : ℕ
    pub reached : k + steps ≡ slot
    pub table : State
    pub pin : unpinned pins slot ≡ false
    pub before : restore_pinned steps old pins k t ≡ ok (some table)
    pub full : restore table (slot_at old slot).key (slot_at old slot).last_access ≡ ok none
    pub tried : tries_pinned left old pins k t + pin_count (drop (slot + 1) pins) ≡ pin_count (drop k pins)

  stops_skip : (left k : ℕ) (t : State) → k < length pins → unpinned pins k ≡ true → Stops left (k + 1) t → Stops (suc left) k t
  unfolding restore_pinned tries_pinned
  stops_skip left k t hk p s =
      record {
        slot = s.slot;
        steps = suc s.steps;
        reached = omega (arith, s.reached);
        table = s.table;
        pin = s.pin;
        before = rw p s.before;
        full = s.full;
        tried = rw p (omega (arith, s.tried, pin_skip pins k hk p));
      }

  module _ (left k : ℕ) (t : State) (hk : k < length pins) (p : unpinned pins k ≡ false) where
    abbrev taken : Try (Option State)
    taken = restore t (slot_at old k).key (slot_at old k).last_access

    stops_here : taken ≡ ok none → Stops (suc left) k t
    unfolding restore_pinned tries_pinned
    stops_here q =
        record {
          slot = k;
          steps = 0;
          reached = omega arith;
          table = t;
          pin = p;
          before = refl;
          full = q;
          tried = rw (p, q) (omega (arith, pin_here pins k hk p));
        }

    stops_on : (v : State) → taken ≡ ok (some v) → Stops left (k + 1) v → Stops (suc left) k t
    unfolding restore_pinned tries_pinned
    stops_on v q s =
        record {
          slot = s.slot;
          steps = suc s.steps;
          reached = omega (arith, s.reached);
          table = s.table;
          pin = s.pin;
          before = rw (p, q) s.before;
          full = s.full;
          tried = rw (p, q) (omega (arith, s.tried, pin_here pins k hk p));
        }

  stops : (left k : ℕ) (t : State) → k + left ≡ length pins → restore_pinned left old pins k t ≡ ok none → Stops left k t
  unfolding restore_pinned
  stops zero k t l e = absurd (no_some (sym e))
  stops (suc left) k t l e =
      elim (is (unpinned pins k)) [
        | yes! p ↦ stops_skip left k t (omega arith) p (stops left (k + 1) t (omega arith) (rw p at e))
        | no! p ↦ elim (got (restore t (slot_at old k).key (slot_at old k).last_access)) [
          | refused! n q ↦ absurd (refuse_ok (rw (p, q) at e))
          | none! q ↦ stops_here left k t (omega arith) p q
          | some! v q ↦ stops_on left k t (omega arith) p v q (stops left (k + 1) v (omega arith) (rw (p, q) at e))
        ]
      ]

  -- from slot 0 on, the slots before it are as many as its number
  stopped : (new : State) → Stops old.capacity 0 new → StoppedAt old pins new
  stopped new s =
      let k : s.steps ≡ s.slot = omega (arith, s.reached) in
      record {
        slot = s.slot;
        table = s.table;
        pin = s.pin;
        before = subst (λ (j : ℕ). restore_pinned j old pins 0 new ≡ ok (some s.table)) k s.before;
        full = s.full;
        tried = s.tried;
      }

pub attempt_tries : AttemptTries
attempt_tries old pins new e = (
  λ u q. all_tried old pins old.capacity 0 new u (omega (arith, e)) q,
  λ q. stopped old pins new (stops old pins old.capacity 0 new (omega (arith, e)) q),
)

pub failed_included : FailedIncluded
unfolding tries_candidate
failed_included left old pins c e h = rw (e, lt-ltb c (old.capacity / 2) h) refl
