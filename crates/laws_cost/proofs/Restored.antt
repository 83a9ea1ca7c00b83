-- SPDX-License-Identifier: Apache-2.0
-- A table that resize makes has no more clean slots than restores are told, on every table: each restore gives it one at most. Assumes nothing.
use Rattle.std.proofs.Common.{if◌then◌else◌}
use Prim.Native.Nat.{ℕ, zero, suc, ◌+◌, ◌-◌, ◌*◌, ◌/◌, ◌≤◌}
use native.Mathlib.Omega.{arith}
use mathlib.Core.Path.{◌≡◌, refl, sym, ap, ◌∙◌}
use mathlib.Core.Bool.{Bool, not, ◌&&◌}
use mathlib.Core.List.{List}
use mathlib.Core.Option.{Option, none, some}
use lib.Dec.{ltb, leb, eqb}
use Rattle.basics.specs.Try.{Try, ok, refuse}
use Rattle.basics.specs.Refusals.{STOP}
use Rattle.basics.specs.Numbers.{MAX}
use Rattle.basics.specs.Lists.{each_slot}
use Rattle.basics.proofs.Tests.{yes!, no!, is, refuse_ok, ok_same, none_some, some_same, met, went}
use Rattle.key.specs.declared.CacheKey.{CacheKey}
use Rattle.index.specs.Chain.{can_insert, insert_index}
use Rattle.index.specs.Free.{top_vacant, take_vacant}
use Rattle.eviction.specs.Heap.{insert_heap}
use Rattle.eviction.specs.Entries.{at}
use Rattle.eviction.specs.Victim.{unpinned}
use Rattle.state.specs.declared.State.{State}
use Rattle.state.specs.Slots.{slot_at, is_clean}
use Rattle.state.specs.Fresh.{empty, fresh}
use Rattle.state.specs.Reads.{peek_clean}
use Rattle.state.specs.Remove.{detach_clean, remove_clean}
use Rattle.maintenance_restore.specs.Restore.{restore_into, restore, restore_pinned, candidate}
use Rattle.maintenance_restore.specs.Tries.{tries_pinned, tries_candidate}
use Rattle.maintenance_resize.specs.Move.{Moving, leave_to, leave_pinned, drop_oldest, keep_new, restore_unless, restore_rest, move_or_remove, move_rest}
use Rattle.maintenance_resize.specs.Cost.{tries_slot, tries_rest}

-- ── what a step gave ──
pub data Got {A : Type 0} (x : Try (Option A)) : Type 0 where
  refused! : (n : ℕ) → x ≡ refuse n → Got x
  none! : x ≡ ok none → Got x
  some! : (a : A) → x ≡ ok (some a) → Got x

pub got : {A : Type 0} (x : Try (Option A)) → Got x
got (refuse n) = refused! n refl
got (ok none) = none! refl
got (ok (some a)) = some! a refl

pub no_some : {A : Type 0} {a : A} → ◌≡◌ {A = Try (Option A)} (ok none) (ok (some a)) → ⊥
no_some e = none_some (ok_same e)

-- ── a restore adds one clean slot ──
into_one : (t : State) (key : CacheKey) (n : ℕ) (top : Option ℕ) (u : State) → restore_into t key n top ≡ ok (some u) → u.clean ≡ t.clean + 1
unfolding restore_into
into_one t key n none u e = absurd (no_some e)
into_one t key n (some slot) u e =
    let (took, p, a) = went (take_vacant t.capacity t.index slot) _ (some u) e in
    let (ix, q, b) = went (insert_index t.capacity took key slot) _ (some u) a in
    let (h, r, c) = went (insert_heap t.capacity t.eviction slot n) _ (some u) b in
    let (s, d) = met (not (eqb t.clean MAX)) STOP _ (some u) c in
    ap (λ (v : State). v.clean) (sym (some_same (ok_same d)))

restore_one : (t : State) (key : CacheKey) (n : ℕ) (u : State) → restore t key n ≡ ok (some u) → u.clean ≡ t.clean + 1
unfolding restore
restore_one t key n u e =
    let (room, p, a) = went (can_insert t.capacity t.index key) _ (some u) e in
    elim (is (not room)) [
      | yes! z ↦ absurd (no_some (rw z at a))
      | no! z ↦ let (top, q, b) = went (top_vacant t.capacity t.index) _ (some u) (rw z at a) in into_one t key n top u b
    ]

-- ── the pinned keys ──
pinned_most : (left : ℕ) (old : State) (pins : List ℕ) (slot : ℕ) (t u : State) → restore_pinned left old pins slot t ≡ ok (some u)
    → u.clean ≤ t.clean + tries_pinned left old pins slot t
unfolding restore_pinned tries_pinned
pinned_most zero old pins slot t u e = let z : t ≡ u = some_same (ok_same e) in omega (arith, ap (λ (v : State). v.clean) z)
pinned_most (suc left) old pins slot t u e =
    elim (is (unpinned pins slot)) [
      | yes! p ↦ rw p (pinned_most left old pins (slot + 1) t u (rw p at e))
      | no! p ↦ elim (got (restore t (slot_at old slot).key (slot_at old slot).last_access)) [
        | refused! n q ↦ absurd (refuse_ok (rw (p, q) at e))
        | none! q ↦ absurd (no_some (rw (p, q) at e))
        | some! v q ↦
            let one = restore_one t (slot_at old slot).key (slot_at old slot).last_access v q in
            rw (p, q) (omega (arith, one, pinned_most left old pins (slot + 1) v u (rw (p, q) at e)))
      ]
    ]

fresh_none : (c : ℕ) → (fresh c).clean ≡ 0
unfolding fresh empty
fresh_none c = refl

pub candidate_most : (left : ℕ) (old : State) (pins : List ℕ) (shrinking : Bool) (c : ℕ) (u : State) → candidate left old pins shrinking c ≡ ok (some u)
    → u.clean ≤ tries_candidate left old pins shrinking c
unfolding candidate tries_candidate
candidate_most zero old pins shrinking c u e = absurd (no_some e)
candidate_most (suc left) old pins shrinking c u e =
    elim (got (restore_pinned old.capacity old pins 0 (fresh c))) [
      | refused! n q ↦ absurd (refuse_ok (rw q at e))
      | some! v q ↦
          let z : v ≡ u = some_same (ok_same (rw q at e)) in
          rw q (omega (arith, ap (λ (y : State). y.clean) z, fresh_none c, pinned_most old.capacity old pins 0 (fresh c) v q))
      | none! q ↦ elim (is (shrinking && ltb c (old.capacity / 2))) [
        | yes! s ↦ rw (q, s) (omega (arith, candidate_most left old pins shrinking (c * 2) u (rw (q, s) at e)))
        | no! s ↦ absurd (no_some (rw (q, s) at e))
      ]
    ]

-- ── the steps that leave the new table ──
pub each_keeps : (step : ℕ → Moving → Try Moving) → ((slot : ℕ) (m k : Moving) → step slot m ≡ ok k → k.new ≡ m.new)
    → (left slot : ℕ) (m k : Moving) → each_slot step left slot m ≡ ok k → k.new ≡ m.new
unfolding each_slot
each_keeps step h zero slot m k e = ap (λ (z : Moving). z.new) (sym (ok_same e))
each_keeps step h (suc left) slot m k e =
    let (b, p, q) = went (step slot m) _ k e in
    each_keeps step h left (slot + 1) b k q ∙ h slot m b p

leave_to_keeps : (slot : ℕ) (m k : Moving) (to : Option ℕ) → leave_to slot m to ≡ ok k → k.new ≡ m.new
unfolding leave_to
leave_to_keeps slot m k none e = ap (λ (z : Moving). z.new) (sym (ok_same e))
leave_to_keeps slot m k (some to) e = let (left, p, q) = went (detach_clean m.old slot) _ k e in ap (λ (z : Moving). z.new) (sym (ok_same q))

pub leave_keeps : (slot : ℕ) (m k : Moving) → leave_pinned slot m ≡ ok k → k.new ≡ m.new
unfolding leave_pinned
leave_keeps slot m k e =
    elim (is (not (is_clean (slot_at m.old slot)))) [
      | yes! z ↦ ap (λ (y : Moving). y.new) (sym (ok_same (rw z at e)))
      | no! z ↦ let (to, p, q) = went (peek_clean m.new (slot_at m.old slot).key) _ k (rw z at e) in leave_to_keeps slot m k to q
    ]

pub drop_keeps : (left : ℕ) (m k : Moving) → drop_oldest left m ≡ ok k → k.new ≡ m.new
unfolding drop_oldest
drop_keeps zero m k e = absurd (refuse_ok e)
drop_keeps (suc left) m k e =
    elim (is (leb m.old.clean (m.new.capacity - m.new.clean))) [
      | yes! z ↦ ap (λ (y : Moving). y.new) (sym (ok_same (rw z at e)))
      | no! z ↦
          let (s, a) = met (ltb 0 m.old.eviction.len) STOP _ k (rw z at e) in
          let (u, p, q) = went (remove_clean m.old (at m.old.eviction 0).slot) _ k a in
          drop_keeps left _ k q
    ]

or_remove_keeps : (slot : ℕ) (m k : Moving) (to : Option ℕ) → move_or_remove slot m to ≡ ok k → k.new ≡ m.new
unfolding move_or_remove
or_remove_keeps slot m k none e = let (u, p, q) = went (remove_clean m.old slot) _ k e in ap (λ (z : Moving). z.new) (sym (ok_same q))
or_remove_keeps slot m k (some to) e = ap (λ (z : Moving). z.new) (sym (ok_same e))

pub move_keeps : (slot : ℕ) (m k : Moving) → move_rest slot m ≡ ok k → k.new ≡ m.new
unfolding move_rest
move_keeps slot m k e =
    elim (is (not (is_clean (slot_at m.old slot)))) [
      | yes! z ↦ ap (λ (y : Moving). y.new) (sym (ok_same (rw z at e)))
      | no! z ↦ let (to, p, q) = went (peek_clean m.new (slot_at m.old slot).key) _ k (rw z at e) in or_remove_keeps slot m k to q
    ]

-- ── the rest ──
rest_one : (slot : ℕ) (m k : Moving) → restore_rest slot m ≡ ok k
    → k.new.clean ≤ m.new.clean + (if is_clean (slot_at m.old slot) then tries_slot (peek_clean m.new (slot_at m.old slot).key) else 0)
unfolding restore_rest restore_unless keep_new
rest_one slot m k e =
    elim (is (is_clean (slot_at m.old slot))) [
      | no! z ↦ let w : m ≡ k = ok_same (rw z at e) in omega (arith, ap (λ (y : Moving). y.new.clean) w)
      | yes! z ↦ elim (got (peek_clean m.new (slot_at m.old slot).key)) [
        | refused! n q ↦ absurd (refuse_ok (rw (z, q) at e))
        | some! to q ↦ let w : m ≡ k = ok_same (rw (z, q) at e) in omega (arith, ap (λ (y : Moving). y.new.clean) w)
        | none! q ↦ elim (got (restore m.new (slot_at m.old slot).key (slot_at m.old slot).last_access)) [
          | refused! n r ↦ absurd (refuse_ok (rw (z, q, r) at e))
          | none! r ↦ let w : m ≡ k = ok_same (rw (z, q, r) at e) in omega (arith, ap (λ (y : Moving). y.new.clean) w)
          | some! u r ↦
              let w = ap (λ (y : Moving). y.new.clean) (ok_same (rw (z, q, r) at e)) in
              rw (z, q) (omega (arith, w, restore_one m.new (slot_at m.old slot).key (slot_at m.old slot).last_access u r))
        ]
      ]
    ]

pub rest_most : (left slot : ℕ) (m k : Moving) → each_slot restore_rest left slot m ≡ ok k → k.new.clean ≤ m.new.clean + tries_rest left slot m
unfolding each_slot tries_rest
rest_most zero slot m k e = omega (arith, ap (λ (y : Moving). y.new.clean) (ok_same e))
rest_most (suc left) slot m k e =
    let (b, p, q) = went (restore_rest slot m) _ k e in
    rw p (omega (arith, rest_one slot m b p, rest_most left (slot + 1) b k q))
