-- SPDX-License-Identifier: Apache-2.0
-- The loops of resize one slot on and at their ends, and what each step does with a slot. Assumes nothing.
use Rattle.std.proofs.Common.{if◌then◌else◌}
use Prim.Native.Nat.{ℕ, zero, suc, ◌+◌, ◌-◌, ◌≤◌, ◌<◌}
use mathlib.Core.Path.{◌≡◌, refl, sym, ◌∙◌}
use mathlib.Core.Bool.{Bool, true, false}
use mathlib.Core.List.{List}
use mathlib.Core.Option.{Option, none, some}
use native.Mathlib.Omega.{arith}
use lib.Dec.{leb, ltb, eqb}
use lib.ListN.{set, take, get_or}
use borrow.Author.Tests.{leb-false, le-leb, lt-leb, eq-eqb, ne_eqb}
use Rattle.basics.specs.Try.{Try, ok, refuse, ◌>>=◌, ◌>>◌, need}
use Rattle.basics.specs.Refusals.{STOP}
use Rattle.basics.specs.Numbers.{NONE}
use Rattle.basics.specs.Lists.{each_slot}
use Rattle.basics.proofs.Tests.{yes!, no!, is, no_ltb, some_ltb, met, left_suc, left_none, refuse_ok}
use Rattle.key.specs.declared.CacheKey.{CacheKey}
use Rattle.index.specs.Chain.{CHAIN, head_of, next_of, length_of}
use Rattle.eviction.specs.Entries.{at}
use Rattle.state.specs.declared.State.{State}
use Rattle.state.specs.declared.Slot.{Slot}
use Rattle.state.specs.Slots.{slot_at, vacant_slot, is_clean, clean_with}
use Rattle.state.specs.Fresh.{sound}
use Rattle.state.specs.Find.{ended}
use Rattle.state.specs.Remove.{detach_clean, remove_clean}
use Rattle.state.specs.Reads.{peek_from, peek_clean}
use Rattle.state.proofs.Cases.{sound_sizes_lem, ended_no_slot}
use Rattle.state_remove.proofs.Kept.{detach_keeps, remove_keeps}
use Rattle.maintenance_restore.specs.Answers.{restored}
use Rattle.maintenance_restore.specs.Restore.{restore}
use Rattle.std.specs.Prelude.{Ok}
use Rattle.maintenance_resize.specs.Move.{Moving, moving_of, leave_to, leave_pinned, drop_oldest}
use Rattle.maintenance_resize.specs.Move.{keep_new, restore_unless, restore_rest, move_or_remove, move_rest}
use Rattle.maintenance_restore.specs.Tries.{tries_on}
use Rattle.maintenance_resize.specs.Cost.{tries_slot, tries_rest}
use lib.Seq.{take-set-lt, get_or-take}

-- ---- a step for each slot

pub each_end : {A : Type 0} (step : ℕ → A → Try A) (c slot : ℕ) (a : A) → c ≤ slot → each_slot step (c - slot) slot a ≡ ok a
unfolding each_slot
each_end step c slot a l = rw (left_none c slot l)

each_step : {A : Type 0} (step : ℕ → A → Try A) (c slot : ℕ) (a : A) → slot < c → each_slot step (c - slot) slot a ≡ (step slot a >>= λ b. each_slot step (c - (slot + 1)) (slot + 1) b)
unfolding each_slot
each_step step c slot a l = rw (left_suc c slot l)

-- ---- a slot that peek_clean found is below the capacity

peek_rest : (k : Bool) (c s x : ℕ) (r : Try (Option ℕ)) → s < c → (if k then ok (some s) else r) ≡ ok (some x) → (r ≡ ok (some x) → x < c) → x < c
peek_rest true c s x r l e f = let q : s ≡ x = cc in omega arith
peek_rest false c s x r l e f = f e

peek_far : (b : Bool) (kept left c s : ℕ) (k : Bool) (x : ℕ) (r : Try (Option ℕ))
    → (if b then ended kept left else if leb c s then refuse STOP else if k then ok (some s) else r) ≡ ok (some x)
    → (r ≡ ok (some x) → x < c) → x < c
peek_far true kept left c s k x r e f = absurd (ended_no_slot kept left x e)
peek_far false kept left c s k x r e f =
    elim (is (leb c s)) [
      | yes! l ↦ absurd (refuse_ok {a = some x} (rw l at e))
      | no! l ↦ peek_rest k c s x r (leb-false c s l) (rw l at e) f
    ]

peek_last : (b : Bool) (kept c x : ℕ) → (if b then ended kept 0 else refuse STOP) ≡ ok (some x) → x < c
peek_last true kept c x e = absurd (ended_no_slot kept 0 x e)
peek_last false kept c x e = absurd (refuse_ok e)

peek_from_low : (n : ℕ) (t : State) (key : CacheKey) (s x : ℕ) → peek_from n t key s ≡ ok (some x) → x < t.capacity
unfolding peek_from
peek_from_low zero t key s x e = peek_last (eqb s NONE) (length_of t.index key) t.capacity x e
peek_from_low (suc n) t key s x e =
    peek_far (eqb s NONE) (length_of t.index key) (suc n) t.capacity s (clean_with (slot_at t s) key) x _ e
    (λ q. peek_from_low n t key (next_of t.index s) x q)

pub peek_low : {x : ℕ} (t : State) (key : CacheKey) → ok (some x) ≡ peek_clean t key → x < 256
unfolding peek_clean
peek_low {x} t key e =
    let a = met (sound t) STOP _ (some x) (sym e) in
    omega (arith, peek_from_low CHAIN t key (head_of t.index key) x a.1, (sound_sizes_lem a.0).small)

-- ---- the first loop, by what its step does with a slot
module _ (c slot : ℕ) (old made : State) (list : List ℕ) where
  abbrev leaving : ℕ → State → List ℕ → Try Moving
  leaving s t l = each_slot leave_pinned (c - s) s (moving_of t made (take c l))

  pub leave_end : c ≤ slot → leaving slot old list ≡ ok (moving_of old made (take c list))
  leave_end l = each_end leave_pinned c slot (moving_of old made (take c list)) l

  pub leave_unclean : slot < c → ((slot_at old slot).kind ≡ 2 → ⊥) → leaving slot old list ≡ leaving (slot + 1) old list
  unfolding leave_pinned
  leave_unclean l k = each_step leave_pinned c slot (moving_of old made (take c list)) l ∙ rw (ne_eqb (slot_at old slot).kind 2 k)

  module _ (l : slot < c) (k : (slot_at old slot).kind ≡ 2) where
    pub leave_refused : {n : ℕ} → refuse n ≡ peek_clean made (slot_at old slot).key → leaving slot old list ≡ refuse n
    unfolding leave_pinned
    leave_refused p = each_step leave_pinned c slot (moving_of old made (take c list)) l ∙ rw (eq-eqb (slot_at old slot).kind 2 k, ← p)

    pub leave_absent : ok none ≡ peek_clean made (slot_at old slot).key → leaving slot old list ≡ leaving (slot + 1) old list
    unfolding leave_pinned leave_to
    leave_absent p = each_step leave_pinned c slot (moving_of old made (take c list)) l ∙ rw (eq-eqb (slot_at old slot).kind 2 k, ← p)

    module _ {to : ℕ} (p : ok (some to) ≡ peek_clean made (slot_at old slot).key) where
      pub leave_stops : {n : ℕ} → refuse n ≡ detach_clean old slot → leaving slot old list ≡ refuse n
      unfolding leave_pinned leave_to
      leave_stops d = each_step leave_pinned c slot (moving_of old made (take c list)) l ∙ rw (eq-eqb (slot_at old slot).kind 2 k, ← p, ← d)

      pub leave_left : {u : State} → ok u ≡ detach_clean old slot → leaving slot old list ≡ leaving (slot + 1) u (set list slot to)
      unfolding leave_pinned leave_to
      leave_left d = each_step leave_pinned c slot (moving_of old made (take c list)) l ∙ rw (eq-eqb (slot_at old slot).kind 2 k, ← p, ← d, take-set-lt c list slot to l)

-- ---- the second loop
module _ (slot : ℕ) (old made : State) (list : List ℕ) where
  -- the slot as the code reads it, among the first ones
  abbrev entry : Slot
  entry = get_or (take old.capacity old.slots) slot vacant_slot

  same_entry : slot < old.capacity → entry ≡ slot_at old slot
  same_entry l = get_or-take old.capacity old.slots slot vacant_slot l

  abbrev filling : ℕ → State → Try Moving
  filling s t = each_slot restore_rest (old.capacity - s) s (moving_of old t list)

  pub rest_end : old.capacity ≤ slot → filling slot made ≡ ok (moving_of old made list)
  rest_end l = each_end restore_rest old.capacity slot (moving_of old made list) l

  pub rest_unclean : slot < old.capacity → (entry.kind ≡ 2 → ⊥) → filling slot made ≡ filling (slot + 1) made
  unfolding restore_rest
  rest_unclean l k = each_step restore_rest old.capacity slot (moving_of old made list) l ∙ rw (← same_entry l, ne_eqb entry.kind 2 k)

  module _ (l : slot < old.capacity) (k : entry.kind ≡ 2) where
    pub rest_refused : {n : ℕ} → refuse n ≡ peek_clean made entry.key → filling slot made ≡ refuse n
    unfolding restore_rest
    rest_refused p = each_step restore_rest old.capacity slot (moving_of old made list) l ∙ rw (← same_entry l, eq-eqb entry.kind 2 k, ← p)

    pub rest_there : {to : ℕ} → ok (some to) ≡ peek_clean made entry.key → filling slot made ≡ filling (slot + 1) made
    unfolding restore_rest restore_unless
    rest_there p = each_step restore_rest old.capacity slot (moving_of old made list) l ∙ rw (← same_entry l, eq-eqb entry.kind 2 k, ← p)

    module _ (p : ok none ≡ peek_clean made entry.key) where
      pub rest_stops : {n : ℕ} → refuse n ≡ restore made entry.key entry.last_access → filling slot made ≡ refuse n
      unfolding restore_rest restore_unless
      rest_stops r = each_step restore_rest old.capacity slot (moving_of old made list) l ∙ rw (← same_entry l, eq-eqb entry.kind 2 k, ← p, ← same_entry l, ← r)

      pub rest_tried : (room : Bool) {u : State} → restored u (Ok room) ≡ restore made entry.key entry.last_access → (room ≡ false → u ≡ made)
          → filling slot made ≡ filling (slot + 1) u
      unfolding restore_rest restore_unless keep_new
      rest_tried true r same = each_step restore_rest old.capacity slot (moving_of old made list) l ∙ rw (← same_entry l, eq-eqb entry.kind 2 k, ← p, ← same_entry l, ← r)
      rest_tried false r same = each_step restore_rest old.capacity slot (moving_of old made list) l ∙ rw (← same_entry l, eq-eqb entry.kind 2 k, ← p, ← same_entry l, ← r, same refl)

-- its count
module _ (slot : ℕ) (old made : State) (list : List ℕ) where
  abbrev counting : ℕ → State → ℕ
  counting s t = tries_rest (old.capacity - s) s (moving_of old t list)

  -- the slot's own restore, and those after it
  counting_step : slot < old.capacity → counting slot made
      ≡ (if is_clean (entry slot old made list) then tries_slot (peek_clean made (entry slot old made list).key) else 0)
      + tries_on (restore_rest slot (moving_of old made list)) (tries_rest (old.capacity - (slot + 1)) (slot + 1))
  unfolding tries_rest
  counting_step l = rw (left_suc old.capacity slot l, ← same_entry slot old made list l)

  pub count_end : old.capacity ≤ slot → counting slot made ≡ 0
  unfolding tries_rest
  count_end l = rw (left_none old.capacity slot l)

  pub count_unclean : slot < old.capacity → ((entry slot old made list).kind ≡ 2 → ⊥) → counting slot made ≡ counting (slot + 1) made
  unfolding restore_rest
  count_unclean l k = counting_step l ∙ rw (← same_entry slot old made list l, ne_eqb (entry slot old made list).kind 2 k) (omega arith)

  module _ (l : slot < old.capacity) (k : (entry slot old made list).kind ≡ 2) where
    pub count_there : {to : ℕ} → ok (some to) ≡ peek_clean made (entry slot old made list).key → counting slot made ≡ counting (slot + 1) made
    unfolding restore_rest restore_unless
    count_there p = counting_step l ∙ rw (← same_entry slot old made list l, eq-eqb (entry slot old made list).kind 2 k, ← p) (omega arith)

    pub count_tried : ok none ≡ peek_clean made (entry slot old made list).key → (room : Bool) {u : State}
        → restored u (Ok room) ≡ restore made (entry slot old made list).key (entry slot old made list).last_access → (room ≡ false → u ≡ made)
        → counting slot made ≡ 1 + counting (slot + 1) u
    unfolding restore_rest restore_unless keep_new
    count_tried p true r same = counting_step l ∙ rw (← same_entry slot old made list l, eq-eqb (entry slot old made list).kind 2 k, ← p, ← same_entry slot old made list l, ← r)
    count_tried p false r same = counting_step l ∙ rw (← same_entry slot old made list l, eq-eqb (entry slot old made list).kind 2 k, ← p, ← same_entry slot old made list l, ← r, same refl)

-- ---- the third loop
module _ (c slot : ℕ) (old made : State) (list : List ℕ) where
  abbrev moving : ℕ → State → List ℕ → Try Moving
  moving s t l = each_slot move_rest (c - s) s (moving_of t made (take c l))

  pub move_end : c ≤ slot → moving slot old list ≡ ok (moving_of old made (take c list))
  move_end l = each_end move_rest c slot (moving_of old made (take c list)) l

  pub move_unclean : slot < c → ((slot_at old slot).kind ≡ 2 → ⊥) → moving slot old list ≡ moving (slot + 1) old list
  unfolding move_rest
  move_unclean l k = each_step move_rest c slot (moving_of old made (take c list)) l ∙ rw (ne_eqb (slot_at old slot).kind 2 k)

  module _ (l : slot < c) (k : (slot_at old slot).kind ≡ 2) where
    pub move_refused : {n : ℕ} → refuse n ≡ peek_clean made (slot_at old slot).key → moving slot old list ≡ refuse n
    unfolding move_rest
    move_refused p = each_step move_rest c slot (moving_of old made (take c list)) l ∙ rw (eq-eqb (slot_at old slot).kind 2 k, ← p)

    pub move_moved : {to : ℕ} → ok (some to) ≡ peek_clean made (slot_at old slot).key → moving slot old list ≡ moving (slot + 1) old (set list slot to)
    unfolding move_rest move_or_remove
    move_moved {to} p = each_step move_rest c slot (moving_of old made (take c list)) l ∙ rw (eq-eqb (slot_at old slot).kind 2 k, ← p, take-set-lt c list slot to l)

    module _ (p : ok none ≡ peek_clean made (slot_at old slot).key) where
      pub move_stops : {n : ℕ} → refuse n ≡ remove_clean old slot → moving slot old list ≡ refuse n
      unfolding move_rest move_or_remove
      move_stops r = each_step move_rest c slot (moving_of old made (take c list)) l ∙ rw (eq-eqb (slot_at old slot).kind 2 k, ← p, ← r)

      pub move_removed : {u : State} → ok u ≡ remove_clean old slot → moving slot old list ≡ moving (slot + 1) u list
      unfolding move_rest move_or_remove
      move_removed r = each_step move_rest c slot (moving_of old made (take c list)) l ∙ rw (eq-eqb (slot_at old slot).kind 2 k, ← p, ← r)

-- ---- the oldest keys, one round on, and at the end
drop_step : (k i : ℕ) (old made : State) (list : List ℕ) → i < k
    → drop_oldest (k - i) (moving_of old made list)
    ≡ (if leb old.clean (made.capacity - made.clean) then ok (moving_of old made list) else
    (need (ltb 0 old.eviction.len) STOP >> (remove_clean old (at old.eviction 0).slot >>= λ u. drop_oldest (k - (i + 1)) (moving_of u made list))))
unfolding drop_oldest
drop_step k i old made list l = rw (left_suc k i l)

module _ (k i : ℕ) (old made : State) (list : List ℕ) where
  pub drop_end : k ≤ i → drop_oldest (k - i) (moving_of old made list) ≡ refuse STOP
  unfolding drop_oldest
  drop_end l = rw (left_none k i l)

  pub drop_fits : i < k → old.clean ≤ made.capacity - made.clean → drop_oldest (k - i) (moving_of old made list) ≡ ok (moving_of old made list)
  drop_fits l h = drop_step k i old made list l ∙ rw (le-leb old.clean (made.capacity - made.clean) h)

  module _ (l : i < k) (h : made.capacity - made.clean < old.clean) where
    pub drop_none : old.eviction.len ≡ 0 → drop_oldest (k - i) (moving_of old made list) ≡ refuse STOP
    drop_none z = drop_step k i old made list l ∙ rw (lt-leb old.clean (made.capacity - made.clean) h, no_ltb old.eviction.len z)

    module _ (z : old.eviction.len ≡ 0 → ⊥) where
      pub drop_stops : {n : ℕ} → refuse n ≡ remove_clean old (at old.eviction 0).slot → drop_oldest (k - i) (moving_of old made list) ≡ refuse n
      drop_stops r = drop_step k i old made list l ∙ rw (lt-leb old.clean (made.capacity - made.clean) h, some_ltb old.eviction.len z, ← r)

      pub drop_on : {u : State} → ok u ≡ remove_clean old (at old.eviction 0).slot → drop_oldest (k - i) (moving_of old made list) ≡ drop_oldest (k - (i + 1)) (moving_of u made list)
      drop_on r = drop_step k i old made list l ∙ rw (lt-leb old.clean (made.capacity - made.clean) h, some_ltb old.eviction.len z, ← r)

-- ---- a sound table stays sound as a clean key leaves it
module _ (old : State) (slot : ℕ) (y : sound old ≡ true) {u : State} where
  pub leave_sound : ok u ≡ detach_clean old slot → sound u ≡ true
  leave_sound e = (detach_keeps old slot y (sym e)).0

  pub drop_sound : ok u ≡ remove_clean old slot → sound u ≡ true
  drop_sound e = (remove_keeps old slot y (sym e)).0
