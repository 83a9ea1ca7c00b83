-- SPDX-License-Identifier: Apache-2.0
-- Every answer of resize on a table with the invariant and no key twice: never 10. Assumes nothing.
use Prim.Native.Nat.{ℕ, ◌<◌, ◌≤◌, ◌^◌}
use native.Mathlib.Omega.{arith}
use mathlib.Core.Path.{◌≡◌, refl, sym, ◌∙◌}
use mathlib.Core.Logic.{inl, inr}
use mathlib.Core.Bool.{true, false, ◌&&◌, false≢true}
use mathlib.Core.List.{List}
use lib.Dec.{ltb, leb, eqb}
use lib.ListN.{length, get_or}
use borrow.Author.Tests.{eqb-true, eqb-false, ltb-true, ltb-false, leb-true}
use Rattle.basics.specs.Try.{Try, ◌>>=◌}
use Rattle.basics.specs.Refusals.{INVALID, ALLOCATION, PINS, LIST, UNCLEAN}
use Rattle.basics.specs.Capacity.{need_capacity}
use Rattle.basics.specs.Numbers.{NONE}
use Rattle.basics.proofs.Tests.{yes!, no!, is, and_left, and_right}
use Rattle.eviction.specs.Victim.{unpinned}
use Rattle.state.specs.declared.State.{State}
use Rattle.state.specs.Slots.{slot_at, is_clean}
use Rattle.maintenance_resize.specs.Answers.{Resizing}
use Rattle.maintenance_restore.specs.Pins.{pins_clean, raised}
use Rattle.maintenance_restore.specs.Restore.{candidate}
use Rattle.maintenance_resize.specs.Resize.{unless_refused, remake_or_busy, resize_to, resize_steps, resize}
use Rattle.laws_table.specs.Table.{Inv, Distinct, Absent}
use Rattle.laws_table.proofs.TableParts.{sound_inv}
use Rattle.laws_maintenance.specs.Calm.{Calm}
use Rattle.laws_maintenance.specs.Remade.{kept!, lost!, Remade}
use Rattle.laws_maintenance.specs.Resize.{ResizeOutcome, refused!, unchanged!, busy!, remade! }
use Rattle.laws_maintenance.proofs.PinBytes.{raised_pins, raised_pos, raised_small, pins_clean_lem}
use Rattle.laws_maintenance.proofs.PinnedKeys.{none!, some! }
use Rattle.laws_maintenance.proofs.Candidates.{candidate_law, choke_small}
use Rattle.laws_maintenance.proofs.Remakes.{remake_law}
use Rattle.laws_maintenance.proofs.Emptied.{emptied, fresh_start_size}

module _ (t : State) (v : Inv t) (dis : Distinct t.slots t.capacity) (asked : ℕ) (pins list : List ℕ) where
  abbrev c : ℕ
  c = raised asked pins

  abbrev Out : Try Resizing → Type 0
  Out r = ResizeOutcome t asked pins list (unless_refused t list r)

  -- past the first tests
  module _ (quiet : t.loading ≡ 0) (lp : length pins ≡ t.capacity) (pc : pins_clean t.capacity t pins 0 ≡ true) (high : asked ≤ 256) where
    w : Calm t
    w = record { inv = v; quiet = quiet; distinct = dis }

    -- "Else pinned keys are restored .. into a fresh table"
    resize_made : (c ≡ t.capacity → ⊥) → Out (candidate 9 t pins (ltb c t.capacity) c >>= remake_or_busy t list)
    unfolding remake_or_busy
    resize_made ne =
        elim (candidate_law t w pins lp (pins_clean_lem t pins pc) c (ltb c t.capacity) 8 (raised_pos asked pins (omega (arith, v.small))) (raised_small asked pins (omega (arith, v.small)) high) (raised_pins asked pins)) [
          | none! h e ↦ rw e (busy! refl (inr (omega (arith, choke_small t w pins c h, ne), h)))
          | some! n p e ↦ let r = remake_law t w pins n c p ne in rw (e, r.gives) (remade! r.good.remade r.good.capacity)
        ]

    resize_on : Out (resize_to t pins list c)
    unfolding resize_to
    resize_on =
        elim (is (eqb c t.capacity)) [
          | yes! e ↦ rw e (unchanged! refl (inr (eqb-true c t.capacity e)))
          | no! e ↦ elim (is (eqb t.clean 0 && ltb c t.capacity)) [
            | yes! q ↦
                let none = eqb-true t.clean 0 (and_left (eqb t.clean 0) (ltb c t.capacity) q) in
                let falls = ltb-true c t.capacity (and_right (eqb t.clean 0) (ltb c t.capacity) q) in
                rw (e, q) (remade! (emptied t w pins c (raised_pos asked pins (omega (arith, v.small))) falls none) (fresh_start_size t c))
            | no! q ↦ rw (e, q) (resize_made (eqb-false c t.capacity e))
          ]
        ]

  pub resize_law : ResizeOutcome t asked pins list (resize t asked pins list)
  unfolding resize resize_steps need_capacity
  resize_law =
      rw (sound_inv t v) (elim (is (ltb 0 asked && leb asked (2 ^ 62))) [
        | no! e ↦ rw e (refused! INVALID refl (omega arith) (omega arith))
        | yes! e ↦ elim (is (leb asked 256)) [
          | no! f ↦ rw (e, f) (refused! ALLOCATION refl (omega arith) (omega arith))
          | yes! f ↦ elim (is (eqb (length pins) t.capacity)) [
            | no! g ↦ rw (e, f, g) (refused! PINS refl (omega arith) (omega arith))
            | yes! g ↦ elim (is (eqb (length list) t.capacity)) [
              | no! h ↦ rw (e, f, g, h) (refused! LIST refl (omega arith) (omega arith))
              | yes! h ↦ elim (is (eqb asked t.capacity)) [
                | yes! i ↦ rw (e, f, g, h, i) (unchanged! refl (inl (eqb-true asked t.capacity i)))
                | no! i ↦ elim (is (ltb 0 t.loading)) [
                  | yes! j ↦ rw (e, f, g, h, i, j) (busy! refl (inl (ltb-true 0 t.loading j)))
                  | no! j ↦ elim (is (pins_clean t.capacity t pins 0)) [
                    | no! k ↦ rw (e, f, g, h, i, j, k) (refused! UNCLEAN refl (omega arith) (omega arith))
                    | yes! k ↦ rw (e, f, g, h, i, j, k) (resize_on (omega (arith, ltb-false 0 t.loading j)) (eqb-true (length pins) t.capacity g) k (leb-true asked 256 f))
                  ]
                ]
              ]
            ]
          ]
        ]
      ])

-- ── what follows for single keys ──
module _ (t : State) (pins : List ℕ) (r : Resizing) (m : Remade t pins r) (s : ℕ) (hs : s < t.capacity) (c : is_clean (slot_at t s) ≡ true) where
  -- "pinned keys stay"
  pub pinned_stay : unpinned pins s ≡ false → get_or r.list s NONE < r.table.capacity
  pinned_stay p = elim (m.places s hs c) [ kept! a b d e ↦ a | lost! a b d e y ↦ absurd (false≢true (sym p ∙ d)) ]

  -- "growing loses none"
  pub growing_keeps : t.capacity < r.table.capacity → get_or r.list s NONE < r.table.capacity
  growing_keeps g = elim (m.places s hs c) [ kept! a b d e ↦ a | lost! a b d e y ↦ absurd (omega arith) ]

  -- a key that the list gives 65535 is in no slot
  pub none_gone : get_or r.list s NONE ≡ NONE → Absent r.table (slot_at t s).key
  none_gone q = elim (m.places s hs c) [ kept! a b d e ↦ absurd (omega (arith, m.calm.inv.small)) | lost! a b d e y ↦ b ]
