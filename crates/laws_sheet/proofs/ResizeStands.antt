-- SPDX-License-Identifier: Apache-2.0
-- What resize leaves of a table in order and of its pins, and that only a capacity is refused. Assumes nothing.
use Rattle.std.proofs.Common.{Option as Maybe}
use Prim.Native.Nat.{ℕ, ◌+◌, ◌≤◌, ◌<◌, ◌^◌}
use native.Mathlib.Omega.{arith}
use mathlib.Core.Path.{◌≡◌, refl, sym, ◌∙◌}
use mathlib.Core.Bool.{true, false, ◌&&◌, false≢true}
use mathlib.Core.List.{List}
use lib.Dec.{eqb, ltb, leb}
use lib.ListN.{length}
use borrow.Author.Tests.{eq-eqb, eqb-false, ltb-true, ltb-false, leb-true}
use Rattle.basics.specs.Try.{Try, ok, refuse, ◌>>=◌}
use Rattle.basics.specs.Lists.{some?}
use Rattle.basics.specs.Capacity.{need_capacity}
use Rattle.basics.proofs.Tests.{is, yes!, no!, and_left}
use Rattle.basics.proofs.Capacities.{capacity_allowed}
use Rattle.eviction.specs.Victim.{unpinned}
use Rattle.state.specs.declared.State.{State}
use Rattle.state.specs.declared.LoadToken.{LoadToken}
use Rattle.state.specs.Slots.{slot_at, is_clean}
use Rattle.state.specs.Answers.{After}
use Rattle.maintenance_resize.specs.Answers.{Size, unchanged, busy_now, resized, Resizing}
use Rattle.maintenance_restore.specs.Pins.{pins_clean, raised}
use Rattle.maintenance_restore.specs.Restore.{candidate}
use Rattle.maintenance_resize.specs.Resize.{unless_refused, fresh_start, remake_or_busy, resize_to, resize_steps, resize}
use Rattle.laws_table.proofs.TableParts.{sound_inv}
use Rattle.laws_maintenance.specs.Calm.{Calm}
use Rattle.laws_maintenance.specs.Remade.{kept!, lost! }
use Rattle.laws_maintenance.specs.Resize as resizes
use Rattle.laws_maintenance.proofs.PinBytes.{raised_pins, raised_pos, raised_small}
use Rattle.laws_maintenance.proofs.PinnedKeys.{none!, some! }
use Rattle.laws_maintenance.proofs.Candidates.{candidate_law}
use Rattle.laws_maintenance.proofs.Remakes.{remake_law}
use Rattle.laws_maintenance.proofs.ResizeLaw.{resize_law}
use Rattle.laws_maintenance.proofs.CallsKeep.{resize_keeps_lem}
use Rattle.sheet_steps.specs.Standing.{no_pins}
use Rattle.sheet_steps.specs.Steps.{move_pins}
use Rattle.laws_sheet.specs.Orderly.{InOrder, Counted}
use Rattle.laws_sheet.specs.Refusals.{refusable}
use Rattle.laws_sheet.proofs.PinsStand.{all_clean, no_pins_lem, pins_moved_lem}
use Rattle.laws_sheet.proofs.CallsStand.{Leaves, later, same}

answered : {A : Type 0} {r : Try A} {a : A} → r ≡ ok a → (m : ℕ) → r ≡ refuse m → ⊥
answered e m q = let z : ◌≡◌ {A = ℕ} 0 1 = cc in omega arith

-- the pins after a resize, by its answer
abbrev pub pins_moved : List ℕ → List ℕ → Try Size → List ℕ
pins_moved pins list (ok unchanged) = pins
pins_moved pins list (ok busy_now) = pins
pins_moved pins list (ok (resized c)) = move_pins (length list) pins list 0 no_pins
pins_moved pins list (refuse n) = pins

-- the table and the answer of a resize
abbrev pub after_resize : Resizing → After Size
after_resize r = record { table = r.table; answer = r.answer }

module _ (t : State) (pins : List ℕ) (places : List (Maybe LoadToken)) (g : InOrder t pins places) (lent : List ℕ) (lp : length lent ≡ t.capacity) (lent_same : (x : ℕ) → x < t.capacity → unpinned lent x ≡ unpinned pins x) (list : List ℕ) (ll : length list ≡ t.capacity) (asked : ℕ) where
  -- a pinned slot is a clean one
  on_clean : (x : ℕ) → x < t.capacity → unpinned lent x ≡ false → is_clean (slot_at t x) ≡ true
  on_clean x h e = g.clean x (sym (lent_same x h) ∙ e)

  -- ── where the capacity asked can be had, no refusal ──
  abbrev Answers : Try Resizing → Type 0
  Answers r = (m : ℕ) → (unless_refused t list r).answer ≡ refuse m → ⊥

  module _ (pos : 0 < asked) (small : asked ≤ 256) where
    made_answers : t.loading ≡ 0 → (raised asked lent ≡ t.capacity → ⊥) → Answers (candidate 9 t lent (ltb (raised asked lent) t.capacity) (raised asked lent) >>= remake_or_busy t list)
    unfolding remake_or_busy
    made_answers quiet ne =
        let w : Calm t = record { inv = g.valid.0; quiet = quiet; distinct = g.valid.1 } in
        let c = raised asked lent in
        let few : length lent ≤ 256 = omega (arith, g.valid.0.small) in
        elim (candidate_law t w lent lp on_clean c (ltb c t.capacity) 8 (raised_pos asked lent few) (raised_small asked lent few small) (raised_pins asked lent)) [
          | none! h e ↦ rw e (answered refl)
          | some! u p e ↦ let r = remake_law t w lent u c p ne in rw (e, r.gives) (answered r.good.remade.answer)
        ]

    to_answers : t.loading ≡ 0 → Answers (resize_to t lent list (raised asked lent))
    unfolding resize_to fresh_start
    to_answers quiet =
        elim (is (eqb (raised asked lent) t.capacity)) [
          | yes! e ↦ rw e (answered refl)
          | no! e ↦ elim (is (eqb t.clean 0 && ltb (raised asked lent) t.capacity)) [
            | yes! q ↦ rw (e, q) (answered refl)
            | no! q ↦ rw (e, q) (made_answers quiet (eqb-false (raised asked lent) t.capacity e))
          ]
        ]

    resize_answers : (m : ℕ) → (resize t asked lent list).answer ≡ refuse m → ⊥
    unfolding resize resize_steps
    resize_answers =
        let clean : pins_clean t.capacity t lent 0 ≡ true = all_clean t.capacity t lent 0 (λ x a b e. on_clean x (omega arith) e) in
        rw (sound_inv t g.valid.0, capacity_allowed asked pos small, eq-eqb (length lent) t.capacity lp, eq-eqb (length list) t.capacity ll) (elim (is (eqb asked t.capacity)) [
          | yes! e ↦ rw e (answered refl)
          | no! e ↦ elim (is (ltb 0 t.loading)) [
            | yes! q ↦ rw (e, q) (answered refl)
            | no! q ↦ rw (e, q, clean) (to_answers (omega (arith, ltb-false 0 t.loading q)))
          ]
        ])

  -- ── what it leaves ──
  module _ (n : ℕ) (k : Counted n t) where
    moved_leaves : (u : State) (list : List ℕ) (a : Try Size) (c : ℕ) → a ≡ ok (resized c) → InOrder u (move_pins (length list) pins list 0 no_pins) places → Counted (n + 1) u → Leaves n 8 (pins_moved pins list a) places (record { table = u; answer = a })
    moved_leaves u list a c e o m = rw e (record { order = o; counted = m; answer = refl })

    granted : 0 < asked → asked ≤ 256 → Leaves n 8 (pins_moved pins (resize t asked lent list).list (resize t asked lent list).answer) places (after_resize (resize t asked lent list))
    granted pos small =
        elim (resize_law t g.valid.0 g.valid.1 asked lent list) [
          | resizes.refused! m e ne n7 ↦ absurd (resize_answers pos small m (rw e))
          | resizes.unchanged! e h ↦ rw e (record { order = g; counted = same n t pins places g k; answer = refl })
          | resizes.busy! e h ↦ rw e (record { order = g; counted = same n t pins places g k; answer = refl })
          | resizes.remade! m fit ↦
              let r = resize t asked lent list in
              let o = no_pins_lem r.table places (resize_keeps_lem t g.valid asked lent list).valid (λ x h q. omega (arith, g.given x h q, m.uses)) in
              moved_leaves r.table r.list r.answer r.table.capacity m.answer
              (pins_moved_lem (length r.list) r.table places pins r.list 0 no_pins o g.bit (λ x a b z. elim (m.places x (g.low x z) (g.clean x z)) [
                | kept! low clean key last ↦ (low, clean)
                | lost! a b free d why ↦ absurd (false≢true (sym z ∙ sym (lent_same x (g.low x z)) ∙ free))
              ]))
              (later n t pins places g k (omega (arith, m.uses)) (omega (arith, m.generations)))
        ]

    pub resize_leaves : Leaves n 8 (pins_moved pins (resize t asked lent list).list (resize t asked lent list).answer) places (after_resize (resize t asked lent list))
    unfolding resize need_capacity refusable some?
    resize_leaves =
        elim (is (ltb 0 asked && leb asked (2 ^ 62))) [
          | no! e ↦ rw (sound_inv t g.valid.0, e) (record { order = g; counted = same n t pins places g k; answer = refl })
          | yes! e ↦ elim (is (leb asked 256)) [
            | no! q ↦ rw (sound_inv t g.valid.0, e, q) (record { order = g; counted = same n t pins places g k; answer = refl })
            | yes! q ↦ granted (ltb-true 0 asked (and_left (ltb 0 asked) (leb asked (2 ^ 62)) e)) (leb-true asked 256 q)
          ]
        ]
