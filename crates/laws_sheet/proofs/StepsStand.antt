-- SPDX-License-Identifier: Apache-2.0
-- Every record leaves what stands in order, and says only what its code can. Assumes nothing.
use Rattle.std.proofs.Common.{Option as Maybe, Some, None, if◌then◌else◌}
use Prim.Native.Nat.{ℕ, ◌≤◌, ◌^◌}
use native.Mathlib.Omega.{arith}
use mathlib.Core.Path.{◌≡◌, refl, sym, ap, subst}
use mathlib.Core.Bool.{Bool, true, false, not, ◌&&◌}
use mathlib.Core.List.{List}
use mathlib.Core.Option.{Option, none, some}
use lib.Dec.{eqb, ltb, leb}
use borrow.Author.Tests.{eqb-true, eqb-false, ltb-true, leb-true, eq-eqb, ne_eqb}
use Rattle.basics.specs.Try.{Try, ok, refuse}
use Rattle.basics.specs.Lists.{some?}
use Rattle.basics.specs.Refusals.{STALE}
use Rattle.basics.specs.Capacity.{need_capacity}
use Rattle.basics.specs.Answers.{Fine, done}
use Rattle.basics.proofs.Tests.{is, yes!, no!, and_left}
use Rattle.state.specs.declared.State.{State}
use Rattle.state.specs.declared.LoadToken.{LoadToken}
use Rattle.state.specs.Answers.{Given, hit, in_progress, reserved, evicted, busy, After}
use Rattle.state.specs.Fresh.{empty, fresh, new}
use Rattle.state.specs.Access.{access}
use Rattle.state.specs.Tokens.{publish, abort}
use Rattle.state.specs.Lookup.{lookup}
use Rattle.state.specs.Remove.{need_clean, remove}
use Rattle.maintenance_reclaim.specs.Reclaim.{reclaim}
use Rattle.maintenance_resize.specs.Answers.{Size, unchanged, busy_now, resized}
use Rattle.maintenance_resize.specs.Resize.{resize}
use Rattle.sheet_lines.specs.declared.Record.{Record}
use Rattle.sheet_lines.specs.declared.Said.{Said}
use Rattle.sheet_lines.specs.Record.{byte_at, in_range, fields_of, read_record}
use Rattle.sheet_standing.specs.declared.Standing.{Standing}
use Rattle.sheet_steps.specs.Standing.{start, afresh, holding, empty_places, with_state, place_at, lent_pins, lent_list, says}
use Rattle.sheet_steps.specs.Steps.{say_new, step_new, say_access, access_of, step_access, say_done, say_token, step_publish, step_abort, say_found, step_lookup, say_removed, step_remove, say_pinned, step_pin, say_size, resize_of, step_resize, say_count, reclaim_of, step_reclaim, step_code, step_record, step}
use Rattle.laws_table.proofs.FreshTable.{fresh_valid}
use Rattle.laws_sheet.specs.Orderly.{InOrder, Orderly, unmade!, made!, Counted}
use Rattle.laws_sheet.specs.Places.{token_of, put_in}
use Rattle.laws_sheet.specs.Refusals.{refusable, sayable, spent_by, Fair}
use Rattle.laws_sheet.proofs.PinsStand.{lent_length, list_length, lent_same, no_pins_lem, no_tokens}
use Rattle.laws_sheet.proofs.CallsStand.{Leaves, pins_after, access_leaves, reclaim_leaves, publish_leaves, abort_leaves, lookup_leaves, remove_leaves, pin_leaves}
use Rattle.laws_sheet.proofs.ResizeStands.{pins_moved, resize_leaves}

-- what stands is as it was
stays : (s : Standing) (n code : ℕ) (said : Said) → Orderly s → Counted n s.state → sayable (spent_by n) code said ≡ true → Fair n code (says s said)
stays s n code said o k e = record { orderly = o; counted = record { uses = omega (arith, k.uses); generations = omega (arith, k.generations) }; said = e }

-- ── 1 ──
new_fair : (s : Standing) (n : ℕ) → Orderly s → Counted n s.state → (r : Record) → Fair n 1 (step_new s r)
unfolding step_new say_new new need_capacity afresh fresh empty refusable some?
new_fair s n o k r =
    let c = r.number in
    elim (is (ltb 0 c && leb c (2 ^ 62))) [
      | no! e ↦ rw e (stays s n 1 (Said.Refused 1) o k refl)
      | yes! e ↦ elim (is (leb c 256)) [
        | no! q ↦ rw (e, q) (stays s n 1 (Said.Refused 2) o k refl)
        | yes! q ↦
            rw (e, q) (record {
              orderly = made! refl (no_pins_lem (fresh c) empty_places (fresh_valid c (ltb-true 0 c (and_left (ltb 0 c) (leb c (2 ^ 62)) e)) (leb-true c 256 q)) (no_tokens (fresh c)));
              counted = record { uses = omega arith; generations = omega arith };
              said = refl;
            })
      ]
    ]

-- ── what a call's answer says ──
module _ (s : Standing) (st : s.stands ≡ true) (n : ℕ) where
  say_access_lem : (place : ℕ) (u : State) (a : Try Given) → Leaves n 2 s.pins (put_in s.places place (token_of a)) (record { table = u; answer = a }) → Fair n 2 (say_access s place u a)
  unfolding say_access
  say_access_lem place u (ok (hit slot)) l = record { orderly = made! st l.order; counted = l.counted; said = refl }
  say_access_lem place u (ok in_progress) l = record { orderly = made! st l.order; counted = l.counted; said = refl }
  say_access_lem place u (ok (reserved t)) l = record { orderly = made! st l.order; counted = l.counted; said = refl }
  say_access_lem place u (ok (evicted t)) l = record { orderly = made! st l.order; counted = l.counted; said = refl }
  say_access_lem place u (ok busy) l = record { orderly = made! st l.order; counted = l.counted; said = refl }
  say_access_lem place u (refuse m) l = record { orderly = made! st l.order; counted = l.counted; said = l.answer }

  say_done_lem : (code : ℕ) (u : State) (a : Try Fine) → Leaves n code s.pins s.places (record { table = u; answer = a }) → Fair n code (say_done (with_state s u) a)
  unfolding say_done
  say_done_lem code u (ok done) l = record { orderly = made! st l.order; counted = l.counted; said = refl }
  say_done_lem code u (refuse m) l = record { orderly = made! st l.order; counted = l.counted; said = l.answer }

  say_token_lem : (code : ℕ) (call : LoadToken → After Fine) (p : Maybe LoadToken) → Fair n code (says s (Said.Refused STALE)) → ((k : LoadToken) → p ≡ holding k → Leaves n code s.pins s.places (call k)) → Fair n code (say_token s call p)
  unfolding say_token
  say_token_lem code call (Some k) stale l = say_done_lem code (call k).table (call k).answer (l k refl)
  say_token_lem code call None stale l = stale

  say_found_lem : (u : State) (a : Try (Option ℕ)) → Leaves n 5 s.pins s.places (record { table = u; answer = a }) → Fair n 5 (say_found (with_state s u) a)
  unfolding say_found
  say_found_lem u (ok (some slot)) l = record { orderly = made! st l.order; counted = l.counted; said = refl }
  say_found_lem u (ok none) l = record { orderly = made! st l.order; counted = l.counted; said = refl }
  say_found_lem u (refuse m) l = record { orderly = made! st l.order; counted = l.counted; said = l.answer }

  say_removed_lem : (u : State) (slot : ℕ) (a : Try Fine) → Leaves n 6 (pins_after s.pins slot 0 a) s.places (record { table = u; answer = a }) → Fair n 6 (say_removed (with_state s u) slot a)
  unfolding say_removed
  say_removed_lem u slot (ok done) l = record { orderly = made! st l.order; counted = l.counted; said = refl }
  say_removed_lem u slot (refuse m) l = record { orderly = made! st l.order; counted = l.counted; said = l.answer }

  say_pinned_lem : (slot : ℕ) (pin : Bool) (a : Try Bool) → Leaves n 7 (pins_after s.pins slot (if pin then 1 else 0) a) s.places (record { table = s.state; answer = a }) → Fair n 7 (say_pinned s slot pin a)
  unfolding say_pinned
  say_pinned_lem slot pin (ok b) l = record { orderly = made! st l.order; counted = l.counted; said = refl }
  say_pinned_lem slot pin (refuse m) l = record { orderly = made! st l.order; counted = l.counted; said = l.answer }

  say_size_lem : (u : State) (list : List ℕ) (a : Try Size) → Leaves n 8 (pins_moved s.pins list a) s.places (record { table = u; answer = a }) → Fair n 8 (say_size s u list a)
  unfolding say_size
  say_size_lem u list (ok unchanged) l = record { orderly = made! st l.order; counted = l.counted; said = refl }
  say_size_lem u list (ok busy_now) l = record { orderly = made! st l.order; counted = l.counted; said = refl }
  say_size_lem u list (ok (resized c)) l = record { orderly = made! st l.order; counted = l.counted; said = refl }
  say_size_lem u list (refuse m) l = record { orderly = made! st l.order; counted = l.counted; said = l.answer }

  say_count_lem : (code : ℕ) (u : State) (count : ℕ) (a : Try Fine) → Leaves n code s.pins s.places (record { table = u; answer = a }) → Fair n code (say_count (with_state s u) count a)
  unfolding say_count
  say_count_lem code u count (ok done) l = record { orderly = made! st l.order; counted = l.counted; said = refl }
  say_count_lem code u count (refuse m) l = record { orderly = made! st l.order; counted = l.counted; said = l.answer }

-- ── 2 to 9 ──
bit_small : (pin : Bool) → (if pin then 1 else 0) ≤ 1
bit_small true = omega arith
bit_small false = omega arith

module _ (s : Standing) (st : s.stands ≡ true) (n : ℕ) (g : InOrder s.state s.pins s.places) (k : Counted n s.state) (r : Record) where
  access_fair : Fair n 2 (step_access s r)
  unfolding step_access access_of
  access_fair =
      let t = s.state in
      let a = access t r.key r.allow (lent_pins s) in
      say_access_lem s st n r.place a.table a.answer (access_leaves n t s.pins s.places g k (lent_pins s) (lent_length s g) (lent_same s g) r.place r.key r.allow)

  stale : (code : ℕ) → refusable (spent_by n) code STALE ≡ true → Fair n code (says s (Said.Refused STALE))
  stale code e = stays s n code (Said.Refused STALE) (made! st g) k e

  publish_fair : Fair n 3 (step_publish s r)
  unfolding step_publish refusable some?
  publish_fair = say_token_lem s st n 3 (publish s.state) (place_at s r.place) (stale 3 refl) (λ t e. publish_leaves n s.state s.pins s.places g k t (g.given r.place t e))

  abort_fair : Fair n 4 (step_abort s r)
  unfolding step_abort refusable some?
  abort_fair = say_token_lem s st n 4 (abort s.state) (place_at s r.place) (stale 4 refl) (λ t e. abort_leaves n s.state s.pins s.places g k t)

  lookup_fair : Fair n 5 (step_lookup s r)
  unfolding step_lookup
  lookup_fair = let a = lookup s.state r.key in say_found_lem s st n a.table a.answer (lookup_leaves n s.state s.pins s.places g k r.key)

  remove_fair : Fair n 6 (step_remove s r)
  unfolding step_remove
  remove_fair = let a = remove s.state r.number in say_removed_lem s st n a.table r.number a.answer (remove_leaves n s.state s.pins s.places g k r.number)

  pin_fair : Fair n 7 (step_pin s r)
  unfolding step_pin
  pin_fair = say_pinned_lem s st n r.number r.allow (need_clean s.state r.number) (pin_leaves n s.state s.pins s.places g k r.number (if r.allow then 1 else 0) (bit_small r.allow))

  resize_fair : Fair n 8 (step_resize s r)
  unfolding step_resize resize_of
  resize_fair =
      let t = s.state in
      let a = resize t r.number (lent_pins s) (lent_list s) in
      say_size_lem s st n a.table a.list a.answer (resize_leaves t s.pins s.places g (lent_pins s) (lent_length s g) (lent_same s g) (lent_list s) (list_length s g) r.number n k)

  reclaim_fair : (code : ℕ) → Fair n code (step_reclaim s r)
  unfolding step_reclaim reclaim_of
  reclaim_fair code =
      let t = s.state in
      let a = reclaim t r.number (lent_pins s) in
      say_count_lem s st n code a.table a.count a.answer (reclaim_leaves n t s.pins s.places g k (lent_pins s) (lent_length s g) (lent_same s g) code r.number)

  code_fair : (code : ℕ) → Fair n code (step_code s r code)
  unfolding step_code
  code_fair code =
      elim (is (eqb code 2)) [
        | yes! e ↦ rw (eqb-true code 2 e) access_fair
        | no! e2 ↦ elim (is (eqb code 3)) [
          | yes! e ↦ rw (eqb-true code 3 e) publish_fair
          | no! e3 ↦ elim (is (eqb code 4)) [
            | yes! e ↦ rw (eqb-true code 4 e) abort_fair
            | no! e4 ↦ elim (is (eqb code 5)) [
              | yes! e ↦ rw (eqb-true code 5 e) lookup_fair
              | no! e5 ↦ elim (is (eqb code 6)) [
                | yes! e ↦ rw (eqb-true code 6 e) remove_fair
                | no! e6 ↦ elim (is (eqb code 7)) [
                  | yes! e ↦ rw (eqb-true code 7 e) pin_fair
                  | no! e7 ↦ elim (is (eqb code 8)) [
                    | yes! e ↦ rw (eqb-true code 8 e) resize_fair
                    | no! e8 ↦ rw (e2, e3, e4, e5, e6, e7, e8) (reclaim_fair code)
                  ]
                ]
              ]
            ]
          ]
        ]
      ]

-- ── every record ──
-- its step, by what was read
step_bad : (s : Standing) (bytes : List ℕ) → read_record bytes ≡ None → step s bytes ≡ says s Said.Bad
unfolding step step_record
step_bad s bytes e = rw e

module _ (s : Standing) (bytes : List ℕ) (r : Record) (w : read_record bytes ≡ Some r) where
  step_new_lem : r.code ≡ 1 → step s bytes ≡ step_new s r
  unfolding step step_record
  step_new_lem e = rw (w, eq-eqb _ _ e)

  step_before : (r.code ≡ 1 → ⊥) → not s.stands ≡ true → step s bytes ≡ says s Said.Bad
  unfolding step step_record
  step_before n t = rw (w, ne_eqb _ _ n, t)

  step_code_lem : (r.code ≡ 1 → ⊥) → not s.stands ≡ false → step s bytes ≡ step_code s r r.code
  unfolding step step_record
  step_code_lem n t = rw (w, ne_eqb _ _ n, t)

module _ (s : Standing) (n : ℕ) (k : Counted n s.state) (bytes : List ℕ) (r : Record) (w : read_record bytes ≡ Some r) where
  later_fair : (r.code ≡ 1 → ⊥) → Orderly s → Fair n r.code (step s bytes)
  unfolding start
  later_fair ne (unmade! e) = rw (step_before s bytes r w ne (ap (λ (x : Standing). not x.stands) e)) (stays s n r.code Said.Bad (unmade! e) k refl)
  later_fair ne (made! st g) = rw (step_code_lem s bytes r w ne (ap not st)) (code_fair s st n g k r r.code)

  whole_fair : Orderly s → Fair n r.code (step s bytes)
  whole_fair o =
      elim (is (eqb r.code 1)) [
        | yes! e ↦
            let one = eqb-true r.code 1 e in
            rw (step_new_lem s bytes r w one) (subst (λ (c : ℕ). Fair n c (step_new s r)) (sym one) (new_fair s n o k r))
        | no! e ↦ later_fair (eqb-false r.code 1 e) o
      ]

read_whole : (bytes : List ℕ) → in_range bytes ≡ true → read_record bytes ≡ Some (fields_of bytes)
unfolding read_record
read_whole bytes e = rw e

read_bad : (bytes : List ℕ) → in_range bytes ≡ false → read_record bytes ≡ None
unfolding read_record
read_bad bytes e = rw e

pub step_fair : (s : Standing) (n : ℕ) → Orderly s → Counted n s.state → (bytes : List ℕ) → Fair n (byte_at bytes 0) (step s bytes)
unfolding fields_of
step_fair s n o k bytes =
    elim (is (in_range bytes)) [
      | yes! e ↦ whole_fair s n k bytes (fields_of bytes) (read_whole bytes e) o
      | no! e ↦ rw (step_bad s bytes (read_bad bytes e)) (stays s n (byte_at bytes 0) Said.Bad o k refl)
    ]
