-- SPDX-License-Identifier: Apache-2.0
-- What each answer of resize comes with, on every table: the capacity, the restores tried, and by which numbers it refuses. Assumes nothing.
use Prim.Native.Nat.{ℕ, zero, suc, ◌+◌, ◌<◌, ◌≤◌, ◌^◌}
use native.Mathlib.Omega.{arith}
use mathlib.Core.Path.{◌≡◌, refl, sym, ap, ◌∙◌}
use mathlib.Core.Bool.{Bool, ◌&&◌}
use mathlib.Core.List.{List, [], ◌∷◌}
use mathlib.Core.Option.{Option, none, some}
use lib.Dec.{ltb, leb, eqb}
use lib.ListN.{length, length-replicate, replicate}
use borrow.Author.Tests.{ltb-true, ltb-false, eq-eqb}
use Rattle.basics.specs.Try.{Try, ok, refuse, ◌>>=◌, ◌>>◌, need}
use Rattle.basics.specs.Refusals.{INVALID, ALLOCATION, PINS, UNCLEAN, STOP}
use Rattle.basics.specs.Numbers.{NONE}
use Rattle.basics.specs.Lists.{each_slot}
use Rattle.basics.specs.Members.{In, here, there}
use Rattle.basics.specs.Capacity.{need_capacity}
use Rattle.basics.proofs.Tests.{yes!, no!, is, refuse_ok, ok_same, none_some, went}
use Rattle.eviction.specs.Victim.{unpinned}
use Rattle.state.specs.declared.State.{State}
use Rattle.state.specs.Fresh.{empty, fresh, sound}
use Rattle.maintenance_restore.specs.Pins.{pins_clean, raised}
use Rattle.maintenance_restore.specs.Restore.{restore_pinned, or_else, candidate}
use Rattle.maintenance_restore.specs.Tries.{tries_on, tries_if, tries_pinned, tries_candidate}
use Rattle.maintenance_resize.specs.Answers.{Size, unchanged, busy_now, resized, Resizing}
use Rattle.maintenance_resize.specs.Move.{Moving, moving_of, leave_pinned, drop_oldest, restore_rest, move_rest, inherit, remake}
use Rattle.maintenance_resize.specs.Resize.{unless_refused, fresh_start, remake_or_busy, resize_to, resize_steps, resize}
use Rattle.maintenance_resize.specs.Cost.{tries_rest, tries_remaking, tries_to, restores_of, Costs, costs_of, by_answer, cost}
use Rattle.laws_maintenance.specs.Resize.{Untouched}
use Rattle.laws_maintenance.proofs.Untouched.{moved, restored, dropped, left, resize_touches}
use Rattle.laws_cost.specs.Laws.{EndsWith, UnchangedKeeps, BusyOverLoads, BusyOverChains, KeptWereTried, RefusalIs0, RefusesBy}
use Rattle.laws_cost.proofs.Foretells.{foretells, same_answer}
use Rattle.laws_cost.proofs.Restored.{candidate_most, each_keeps, leave_keeps, drop_keeps, move_keeps, rest_most}
use Rattle.laws_cost.proofs.Stops.{OnlyStop, candidate_stops, leave_stops, drop_stops, rest_stops, move_stops, each_stops}

-- ── a key that is refused was tried ──
pinned_tries : (left : ℕ) (old : State) (pins : List ℕ) (slot : ℕ) (t : State) → restore_pinned left old pins slot t ≡ ok none
    → 0 < tries_pinned left old pins slot t
unfolding restore_pinned tries_pinned
pinned_tries zero old pins slot t e = absurd (none_some (sym (ok_same e)))
pinned_tries (suc left) old pins slot t e =
    elim (is (unpinned pins slot)) [
      | yes! u ↦ rw u (pinned_tries left old pins (slot + 1) t (rw u at e))
      | no! u ↦ rw u (omega arith)
    ]

fits_none : (fits : Option State) (r : Try (Option State)) → or_else fits r ≡ ok none → fits ≡ none
fits_none none r e = refl
fits_none (some t) r e = absurd (none_some (sym (ok_same e)))

candidate_tries : (left : ℕ) (old : State) (pins : List ℕ) (shrinking : Bool) (c : ℕ) → candidate (suc left) old pins shrinking c ≡ ok none
    → 0 < tries_candidate (suc left) old pins shrinking c
unfolding candidate tries_candidate
candidate_tries left old pins shrinking c e =
    let (fits, p, q) = went (restore_pinned old.capacity old pins 0 (fresh c)) _ none e in
    let z : restore_pinned old.capacity old pins 0 (fresh c) ≡ ok none = p ∙ ap {B = Try (Option State)} ok (fits_none fits _ q) in
    omega (arith, pinned_tries old.capacity old pins 0 (fresh c) z)

-- ── by the answer ──
abbrev numbers : List ℕ
numbers = STOP ∷ INVALID ∷ ALLOCATION ∷ PINS ∷ UNCLEAN ∷ []

-- what an answer of a resize r of t comes with, where n restores are told
abbrev Fits : State → ℕ → Resizing → Try Size → Type 0
Fits t n r (ok unchanged) = n ≡ 0
Fits t n r (ok busy_now) = (0 < t.loading → n ≡ 0) × (t.loading ≡ 0 → 0 < n)
Fits t n r (ok (resized c)) = (r.table.capacity ≡ c) × (r.table.clean ≤ n)
Fits t n r (refuse m) = In m numbers

module _ (t : State) (list : List ℕ) where
  abbrev Calls : ℕ → Try Resizing → Type 0
  Calls n x = Fits t n (unless_refused t list x) (unless_refused t list x).answer

  on : {A : Type 0} (n : ℕ) (x : Try A) (f : A → Try Resizing) → OnlyStop x → ((a : A) → x ≡ ok a → Calls n (f a)) → Calls n (x >>= f)
  on n (ok a) f p h = h a refl
  on n (refuse m) f p h = rw (p.by m refl) here

  past : (n : ℕ) (b : Bool) (m : ℕ) (y : Try Resizing) → In m numbers → Calls n y → Calls n (need b m >> y)
  past n b m y i h = elim (is b) [ yes! e ↦ rw e h | no! e ↦ rw e i ]

  -- the restores of a remaking, where the steps before the rest gave b
  rest_told : (new : State) (a b : Moving) → each_slot leave_pinned t.capacity 0 (moving_of t new (replicate t.capacity NONE)) ≡ ok a
      → drop_oldest 257 a ≡ ok b → tries_remaking t new ≡ tries_rest t.capacity 0 b
  unfolding tries_remaking
  rest_told new a b p q = rw (p, q) refl

  remade : (n : ℕ) (new : State) → new.clean + tries_remaking t new ≤ n → Calls n (remake t new)
  unfolding remake inherit
  remade n new h =
      on n (each_slot leave_pinned t.capacity 0 (moving_of t new (replicate t.capacity NONE))) (left t list)
      (each_stops leave_pinned leave_stops t.capacity 0 (moving_of t new (replicate t.capacity NONE)))
      (λ a p. on n (drop_oldest 257 a) (dropped t list) (drop_stops 257 a)
      (λ b q. on n (each_slot restore_rest t.capacity 0 b) (restored t list) (each_stops restore_rest rest_stops t.capacity 0 b)
      (λ c r. on n (each_slot move_rest t.capacity 0 c) (moved t list) (each_stops move_rest move_stops t.capacity 0 c)
      (λ d s.
      let same : b.new ≡ new = drop_keeps 257 a b q ∙ each_keeps leave_pinned leave_keeps t.capacity 0 (moving_of t new (replicate t.capacity NONE)) a p in
      let most = rest_most t.capacity 0 b c r in
      let kept : d.new ≡ c.new = each_keeps move_rest move_keeps t.capacity 0 c d s in
      (refl, omega (arith, h, most, rest_told new a b p q, ap (λ (v : State). v.clean) same, ap (λ (v : State). v.clean) kept))))))

  busy_or : (n : ℕ) (new : Option State) → t.loading ≡ 0 → (new ≡ none → 0 < n) → ((u : State) → new ≡ some u → u.clean + tries_remaking t u ≤ n)
      → Calls n (remake_or_busy t list new)
  unfolding remake_or_busy
  busy_or n none quiet h k = (λ l. absurd (omega arith), λ l. h refl)
  busy_or n (some new) quiet h k = remade n new (k new refl)

  -- the pinned keys and the rest
  abbrev tried : List ℕ → ℕ → Try (Option State) → ℕ
  tried pins c x = tries_candidate 9 t pins (ltb c t.capacity) c + tries_on x (λ new. tries_if new (tries_remaking t))

  made : (pins : List ℕ) (c : ℕ) → t.loading ≡ 0
      → (let x = candidate 9 t pins (ltb c t.capacity) c in Calls (tried pins c x) (x >>= remake_or_busy t list))
  made pins c quiet =
      let x = candidate 9 t pins (ltb c t.capacity) c in
      on (tried pins c x) x (remake_or_busy t list) (candidate_stops 9 t pins (ltb c t.capacity) c)
      (λ new p. busy_or (tried pins c x) new quiet
      (λ z. omega (arith, candidate_tries 8 t pins (ltb c t.capacity) c (p ∙ ap {B = Try (Option State)} ok z)))
      (λ u z.
      let q : x ≡ ok (some u) = p ∙ ap {B = Try (Option State)} ok z in
      let e : tried pins c x ≡ tried pins c (ok (some u)) = ap (tried pins c) q in
      omega (arith, candidate_most 9 t pins (ltb c t.capacity) c u q, e)))

  to : (pins : List ℕ) (c : ℕ) → t.loading ≡ 0 → Calls (tries_to t pins c) (resize_to t pins list c)
  unfolding resize_to tries_to fresh_start inherit fresh empty
  to pins c quiet =
      elim (is (eqb c t.capacity)) [
        | yes! e ↦ rw e refl
        | no! e ↦ elim (is (eqb t.clean 0 && ltb c t.capacity)) [
          | yes! q ↦ rw (e, q) (refl, omega arith)
          | no! q ↦ rw (e, q) (made pins c quiet)
        ]
      ]

  steps : (asked : ℕ) (pins : List ℕ) → Calls (restores_of t asked pins) (resize_steps t asked pins list)
  unfolding resize_steps restores_of
  steps asked pins =
      elim (is (eqb asked t.capacity)) [
        | yes! e ↦ rw e refl
        | no! e ↦ elim (is (ltb 0 t.loading)) [
          | yes! q ↦ rw (e, q) (λ l. refl, λ l. absurd (omega (arith, ltb-true 0 t.loading q)))
          | no! q ↦
              let quiet : t.loading ≡ 0 = omega (arith, ltb-false 0 t.loading q) in
              rw (e, q) (past _ (pins_clean t.capacity t pins 0) UNCLEAN _ (there (there (there (there here)))) (to pins (raised asked pins) quiet))
        ]
      ]

  whole : (asked : ℕ) (pins : List ℕ) → length list ≡ t.capacity
      → Fits t (restores_of t asked pins) (resize t asked pins list) (resize t asked pins list).answer
  unfolding resize need_capacity
  whole asked pins e =
      rw (eq-eqb (length list) t.capacity e) (past _ (sound t) STOP _ here (elim (is (ltb 0 asked && leb asked (2 ^ 62))) [
        | no! q ↦ rw q (there here)
        | yes! q ↦ elim (is (leb asked 256)) [
          | no! p ↦ rw (q, p) (there (there here))
          | yes! p ↦ rw (q, p) (past _ (eqb (length pins) t.capacity) PINS _ (there (there (there here))) (steps asked pins))
        ]
      ]))

-- ── the cost by its answer ──
module _ (t : State) (list : List ℕ) (n : ℕ) (r : Resizing) where
  capacity_by : (a : Try Size) (s : Size) → a ≡ ok s → Untouched t list r a → Fits t n r a → (by_answer t r.list n a).capacity ≡ r.table.capacity
  capacity_by (ok unchanged) s e u f = ap (λ (v : State). v.capacity) (sym u.0)
  capacity_by (ok busy_now) s e u f = ap (λ (v : State). v.capacity) (sym u.0)
  capacity_by (ok (resized c)) s e u f = sym f.0
  capacity_by (refuse m) s e u f = absurd (refuse_ok e)

  unchanged_by : (a : Try Size) → a ≡ ok unchanged → Fits t n r a → by_answer t list n a ≡ costs_of (ok unchanged) t.capacity 0 0
  unchanged_by a e f = let z : n ≡ 0 = rw e at f in rw (e, z)

  busy_by : (a : Try Size) → a ≡ ok busy_now → Fits t n r a
      → (by_answer t list n a ≡ costs_of (ok busy_now) t.capacity 0 n) × (0 < t.loading → n ≡ 0) × (t.loading ≡ 0 → 0 < n)
  busy_by a e f = let z : (0 < t.loading → n ≡ 0) × (t.loading ≡ 0 → 0 < n) = rw e at f in (rw e, z.0, z.1)

  refuse_by : (a : Try Size) (m : ℕ) → a ≡ refuse m → Fits t n r a → (by_answer t list n a ≡ costs_of (refuse m) 0 0 0) × In m numbers
  refuse_by a m e f = let z : In m numbers = rw e at f in (rw e, z)

  kept_by : (a : Try Size) (c : ℕ) → a ≡ ok (resized c) → Fits t n r a → r.table.clean ≤ (by_answer t list n a).restores
  kept_by a c e f = let z : (r.table.capacity ≡ c) × (r.table.clean ≤ n) = rw e at f in rw e z.1

pub kept_were_tried : KeptWereTried
kept_were_tried t asked pins list c e q =
    let r = resize t asked pins list in
    omega (
      arith,
      ap (λ (k : Costs). k.restores) (foretells t asked pins list e),
      kept_by t r.list (restores_of t asked pins) r r.answer c q (whole t list asked pins e),
    )

pub ends_with : EndsWith
ends_with t asked pins list a e q =
    let r = resize t asked pins list in
    ap (λ (k : Costs). k.capacity) (foretells t asked pins list e)
    ∙ capacity_by t list (restores_of t asked pins) r r.answer a q (resize_touches t asked pins list) (whole t list asked pins e)

module _ (t : State) (asked : ℕ) (pins : List ℕ) where
  abbrev zeros : List ℕ
  zeros = replicate t.capacity 0

  abbrev lent : Resizing
  lent = resize t asked pins zeros

  fits : Fits t (restores_of t asked pins) lent lent.answer
  fits = whole t zeros asked pins (length-replicate t.capacity 0)

  answers : (a : Try Size) → (cost t asked pins).answer ≡ a → lent.answer ≡ a
  answers a q = sym (same_answer t asked pins zeros (length-replicate t.capacity 0)) ∙ q

  busy : (cost t asked pins).answer ≡ ok busy_now
      → (cost t asked pins ≡ costs_of (ok busy_now) t.capacity 0 (restores_of t asked pins))
      × (0 < t.loading → restores_of t asked pins ≡ 0) × (t.loading ≡ 0 → 0 < restores_of t asked pins)
  unfolding cost
  busy q = busy_by t lent.list (restores_of t asked pins) lent lent.answer (answers (ok busy_now) q) fits

  refused : (n : ℕ) → (cost t asked pins).answer ≡ refuse n → (cost t asked pins ≡ costs_of (refuse n) 0 0 0) × In n numbers
  unfolding cost
  refused n q = refuse_by t lent.list (restores_of t asked pins) lent lent.answer n (answers (refuse n) q) fits

pub unchanged_keeps : UnchangedKeeps
unfolding cost
unchanged_keeps t asked pins q =
    let r = lent t asked pins in
    unchanged_by t r.list (restores_of t asked pins) r r.answer (answers t asked pins (ok unchanged) q) (fits t asked pins)

pub busy_over_loads : BusyOverLoads
busy_over_loads t asked pins l q = let b = busy t asked pins q in b.0 ∙ ap (costs_of (ok busy_now) t.capacity 0) (b.1 l)

pub busy_over_chains : BusyOverChains
busy_over_chains t asked pins l q = let b = busy t asked pins q in (b.0, b.2 l)

pub refusal_is_0 : RefusalIs0
refusal_is_0 t asked pins n q = (refused t asked pins n q).0

pub refuses_by : RefusesBy
refuses_by t asked pins n q = (refused t asked pins n q).1
