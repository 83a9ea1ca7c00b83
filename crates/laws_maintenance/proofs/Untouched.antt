-- SPDX-License-Identifier: Apache-2.0
-- Unchanged, Busy and refusals of resize leave table and list, whatever the table. Assumes nothing.
use Prim.Native.Nat.{ℕ}
use mathlib.Core.Path.{refl}
use mathlib.Core.Bool.{◌&&◌}
use mathlib.Core.List.{List}
use mathlib.Core.Option.{Option, none, some}
use lib.Dec.{ltb, eqb}
use lib.ListN.{length, replicate}
use Rattle.basics.specs.Try.{Try, ok, refuse, ◌>>=◌, ◌>>◌, need}
use Rattle.basics.specs.Refusals.{STOP, PINS, LIST, UNCLEAN}
use Rattle.basics.specs.Numbers.{NONE}
use Rattle.basics.specs.Lists.{each_slot}
use Rattle.basics.specs.Capacity.{need_capacity}
use Rattle.basics.proofs.Tests.{is, yes!, no! }
use Rattle.state.specs.declared.State.{State}
use Rattle.state.specs.Fresh.{sound}
use Rattle.maintenance_resize.specs.Answers.{resized, Resizing}
use Rattle.maintenance_restore.specs.Pins.{pins_clean, raised}
use Rattle.maintenance_restore.specs.Restore.{candidate}
use Rattle.maintenance_resize.specs.Move.{Moving, moving_of, leave_pinned, drop_oldest, restore_rest, move_rest, inherit, remake}
use Rattle.maintenance_resize.specs.Resize.{unless_refused, fresh_start, remake_or_busy, resize_to, resize_steps, resize}
use Rattle.laws_maintenance.specs.Resize.{Untouched, ResizeTouches}

module _ (t : State) (list : List ℕ) where
  abbrev Calls : Try Resizing → Type 0
  Calls x = Untouched t list (unless_refused t list x) (unless_refused t list x).answer

  -- a refusal ends it; else it goes on
  on : {A : Type 0} (x : Try A) (f : A → Try Resizing) → ((a : A) → Calls (f a)) → Calls (x >>= f)
  on (ok a) f h = h a
  on (refuse n) f h = (refl, refl)

  past : {A : Type 0} (x : Try A) (y : Try Resizing) → Calls y → Calls (x >> y)
  past (ok a) y h = h
  past (refuse n) y h = (refl, refl)

  -- the steps of a remaking, each with what comes after it
  abbrev pub moved : Moving → Try Resizing
  moved d = ok (record { table = inherit d.new d.old; answer = ok (resized d.new.capacity); list = d.list })

  abbrev pub restored : Moving → Try Resizing
  restored c = each_slot move_rest t.capacity 0 c >>= moved

  abbrev pub dropped : Moving → Try Resizing
  dropped b = each_slot restore_rest t.capacity 0 b >>= restored

  abbrev pub left : Moving → Try Resizing
  left a = drop_oldest 257 a >>= dropped

  remade : (new : State) → Calls (remake t new)
  unfolding remake
  remade new =
      on (each_slot leave_pinned t.capacity 0 (moving_of t new (replicate t.capacity NONE))) left
      (λ a. on (drop_oldest 257 a) dropped
      (λ b. on (each_slot restore_rest t.capacity 0 b) restored (λ c. on (each_slot move_rest t.capacity 0 c) moved (λ d. tt))))

  busy_or : (new : Option State) → Calls (remake_or_busy t list new)
  unfolding remake_or_busy
  busy_or none = (refl, refl)
  busy_or (some new) = remade new

  to : (pins : List ℕ) (c : ℕ) → Calls (resize_to t pins list c)
  unfolding resize_to fresh_start
  to pins c =
      elim (is (eqb c t.capacity)) [
        | yes! e ↦ rw e (refl, refl)
        | no! e ↦ elim (is (eqb t.clean 0 && ltb c t.capacity)) [
          | yes! q ↦ rw (e, q) tt
          | no! q ↦ rw (e, q) (on (candidate 9 t pins (ltb c t.capacity) c) (remake_or_busy t list) busy_or)
        ]
      ]

  steps : (asked : ℕ) (pins : List ℕ) → Calls (resize_steps t asked pins list)
  unfolding resize_steps
  steps asked pins =
      elim (is (eqb asked t.capacity)) [
        | yes! e ↦ rw e (refl, refl)
        | no! e ↦ elim (is (ltb 0 t.loading)) [
          | yes! q ↦ rw (e, q) (refl, refl)
          | no! q ↦ rw (e, q) (past (need (pins_clean t.capacity t pins 0) UNCLEAN) (resize_to t pins list (raised asked pins)) (to pins (raised asked pins)))
        ]
      ]

pub resize_touches : ResizeTouches
unfolding resize
resize_touches t asked pins list =
    let a = resize_steps t asked pins list in
    let b = need (eqb (length list) t.capacity) LIST >> a in
    let c = need (eqb (length pins) t.capacity) PINS >> b in
    past t list (need (sound t) STOP) (need_capacity asked >> c)
    (past t list (need_capacity asked) c (past t list (need (eqb (length pins) t.capacity) PINS) b
    (past t list (need (eqb (length list) t.capacity) LIST) a (steps t list asked pins))))
