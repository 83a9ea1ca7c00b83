-- SPDX-License-Identifier: Apache-2.0
-- The tests of resize, and the steps that remake a table, each by what the code answered for it. Assumes nothing.
use Prim.Native.Nat.{ℕ, ◌+◌, ◌≤◌}
use mathlib.Core.Path.{◌≡◌, refl, ap, ◌∙◌}
use mathlib.Core.Bool.{Bool, true, false}
use mathlib.Core.List.{List}
use lib.Dec.{eqb}
use lib.ListN.{take, replicate, length}
use Rattle.basics.specs.Try.{Try, ok, refuse, ◌>>◌, need}
use Rattle.basics.specs.Answers.{Fine, done}
use Rattle.basics.specs.Refusals.{STOP, PINS, LIST}
use Rattle.basics.specs.Capacity.{need_capacity}
use Rattle.state.specs.Fresh.{sound}
use Rattle.basics.specs.Numbers.{NONE}
use Rattle.basics.specs.Lists.{each_slot}
use Rattle.state.specs.declared.State.{State}
use Rattle.maintenance_resize.specs.Answers.{resized, Resizing}
use Rattle.maintenance_resize.specs.Resize.{unless_refused, need_input_of, need_input, resize_steps, resize}
use Rattle.maintenance_resize.specs.Move.{Moving, moving_of, leave_pinned, drop_oldest, restore_rest, move_rest, inherit, remake}
use Rattle.maintenance_resize.specs.Cost.{tries_rest, tries_remaking}
use Rattle.std.proofs.lemmas.List.{take-replicate}

module _ (old new : State) (small : old.capacity ≤ 256) where
  -- what leaving the pinned keys begins with
  abbrev begun : Moving
  begun = moving_of old new (take old.capacity (replicate 256 NONE))

  pub remake_unleft : {n : ℕ} → refuse n ≡ each_slot leave_pinned old.capacity 0 begun → remake old new ≡ refuse n
  unfolding remake
  remake_unleft e = rw (← take-replicate old.capacity 256 NONE small, ← e)

  module _ {left : State} (slots : List ℕ) (e : ok (moving_of left new (take old.capacity slots)) ≡ each_slot leave_pinned old.capacity 0 begun) where
    pub remake_undropped : {n : ℕ} → ((l : List ℕ) → refuse n ≡ drop_oldest 257 (moving_of left new l)) → remake old new ≡ refuse n
    unfolding remake
    remake_undropped f = rw (← take-replicate old.capacity 256 NONE small, ← e, ← f (take old.capacity slots))

    module _ {rest : State} (f : (l : List ℕ) → ok (moving_of rest new l) ≡ drop_oldest 257 (moving_of left new l)) (k : rest.capacity ≡ left.capacity) (j : left.capacity ≡ old.capacity) where
      filled : {r : Try Moving} → r ≡ each_slot restore_rest rest.capacity 0 (moving_of rest new (take old.capacity slots))
          → r ≡ each_slot restore_rest old.capacity 0 (moving_of rest new (take old.capacity slots))
      filled g = g ∙ ap (λ n. each_slot restore_rest n 0 (moving_of rest new (take old.capacity slots))) (k ∙ j)

      pub remake_unfilled : {n : ℕ} → ((l : List ℕ) → refuse n ≡ each_slot restore_rest rest.capacity 0 (moving_of rest new l)) → remake old new ≡ refuse n
      unfolding remake
      remake_unfilled g = rw (← take-replicate old.capacity 256 NONE small, ← e, ← f (take old.capacity slots), ← filled (g (take old.capacity slots)))

      pub remaking_tries : (m : ℕ) {n : ℕ} → ((l : List ℕ) → n ≡ m + tries_rest rest.capacity 0 (moving_of rest new l)) → n ≡ m + tries_remaking old new
      unfolding tries_remaking
      remaking_tries m g =
          g (take old.capacity slots) ∙ ap (λ x. m + tries_rest x 0 (moving_of rest new (take old.capacity slots))) (k ∙ j)
          ∙ rw (← take-replicate old.capacity 256 NONE small, ← e, ← f (take old.capacity slots)) refl

      module _ {made : State} (g : (l : List ℕ) → ok (moving_of rest made l) ≡ each_slot restore_rest rest.capacity 0 (moving_of rest new l)) where
        moved : {r : Try Moving} → r ≡ each_slot move_rest rest.capacity 0 (moving_of rest made (take rest.capacity slots))
            → r ≡ each_slot move_rest old.capacity 0 (moving_of rest made (take old.capacity slots))
        moved h = h ∙ ap (λ n. each_slot move_rest n 0 (moving_of rest made (take n slots))) (k ∙ j)

        pub remake_unmoved : {n : ℕ} → refuse n ≡ each_slot move_rest rest.capacity 0 (moving_of rest made (take rest.capacity slots)) → remake old new ≡ refuse n
        unfolding remake
        remake_unmoved h = rw (← take-replicate old.capacity 256 NONE small, ← e, ← f (take old.capacity slots), ← filled (g (take old.capacity slots)), ← moved h)

        pub remake_done : {last u : State} (list : List ℕ) → ok (moving_of last made (take rest.capacity list)) ≡ each_slot move_rest rest.capacity 0 (moving_of rest made (take rest.capacity slots))
            → u ≡ inherit made last → remake old new ≡ ok (record { table = u; answer = ok (resized u.capacity); list = take old.capacity list })
        unfolding remake inherit
        remake_done list h i = rw (i, ← take-replicate old.capacity 256 NONE small, ← e, ← f (take old.capacity slots), ← filled (g (take old.capacity slots)), ← moved h, k, j)

-- ---- the tests of the input, apart from the steps

apart : (s p q : Bool) (x : Try Fine) (r : Try Resizing)
    → (need s STOP >> x >> need p PINS >> need q LIST >> r) ≡ ((need s STOP >> x >> need p PINS >> need q LIST >> ok done) >> r)
apart false p q x r = refl
apart true p q (refuse n) r = refl
apart true false q (ok done) r = refl
apart true true false (ok done) r = refl
apart true true true (ok done) r = refl

module _ (t : State) (asked : ℕ) (pins list : List ℕ) where
  -- the rule, its tests of the input before its steps
  pub resize_apart : resize t asked pins list ≡ unless_refused t list (need_input t asked (length pins) (length list) >> resize_steps t asked pins list)
  unfolding resize need_input_of
  resize_apart =
      ap (unless_refused t list)
      (apart (sound t) (eqb (length pins) t.capacity) (eqb (length list) t.capacity) (need_capacity asked) (resize_steps t asked pins list))

  pub resize_refused : {n : ℕ} → refuse n ≡ need_input t asked (length pins) (length list) → resize t asked pins list ≡ unless_refused t list (refuse n)
  resize_refused e = resize_apart ∙ rw (← e)

  pub resize_on : ok done ≡ need_input t asked (length pins) (length list) → resize t asked pins list ≡ unless_refused t list (resize_steps t asked pins list)
  resize_on e = resize_apart ∙ rw (← e)
