-- SPDX-License-Identifier: Apache-2.0
-- A remaking does not stop, and what it leaves. Assumes nothing.
use Prim.Native.Nat.{ℕ, ◌<◌}
use native.Mathlib.Omega.{arith}
use mathlib.Core.Path.{◌≡◌, refl, sym, ap, ◌∙◌}
use mathlib.Core.Logic.{inl}
use mathlib.Core.Bool.{true}
use mathlib.Core.List.{List}
use lib.Dec.{ltb}
use lib.ListN.{get_or}
use borrow.Author.Tests.{ltb-true, ltb-false}
use Rattle.basics.specs.Try.{ok}
use Rattle.basics.specs.Numbers.{NONE}
use Rattle.basics.proofs.Tests.{yes!, no!, is}
use Rattle.eviction.specs.Victim.{unpinned}
use Rattle.state.specs.declared.State.{State}
use Rattle.state.specs.Slots.{slot_at, is_clean}
use Rattle.maintenance_resize.specs.Answers.{resized, Resizing}
use Rattle.maintenance_resize.specs.Move.{Moving, inherit, remake}
use Rattle.laws_table.proofs.SlotKinds.{clean_occupied}
use Rattle.laws_table.proofs.TableParts.{slots_sum}
use Rattle.laws_maintenance.specs.Calm.{Calm}
use Rattle.laws_maintenance.specs.Remade.{too_many!, full_chain!, Place, kept!, lost!, Source, Remade}
use Rattle.laws_maintenance.proofs.Loops.{Reaches}
use Rattle.laws_maintenance.proofs.CalmTables.{one_clean, not_present}
use Rattle.laws_maintenance.proofs.Draws.{over_present}
use Rattle.laws_maintenance.proofs.ChainRoom.{not_full}
use Rattle.laws_maintenance.proofs.Candidates.{Pinning}
use Rattle.laws_maintenance.proofs.MoveFates.{dropped!, choked!, waits!, went!, gone! }
use Rattle.laws_maintenance.proofs.MoveLeaves.{leave_pinned_lem}
use Rattle.laws_maintenance.proofs.MoveDrops.{drop_oldest_lem}
use Rattle.laws_maintenance.proofs.MoveRestores.{restore_rest_lem}
use Rattle.laws_maintenance.proofs.MoveEnds.{Ending, move_rest_lem}

-- what is made, of the capacity c
pub record Makes (t : State) (pins : List ℕ) (c : ℕ) (r : Resizing) : Type 0 where
  pub capacity : r.table.capacity ≡ c
  pub remade : Remade t pins r

-- ── what is left at the end ──
module _ (t : State) (w : Calm t) (pins : List ℕ) (n : State) (c : ℕ) (start : Pinning t pins c t.capacity n) (ne : c ≡ t.capacity → ⊥) (m : Moving) (f : Ending t pins n t.capacity m) where
  abbrev made : Resizing
  made = record { table = inherit m.new m.old; answer = ok (resized m.new.capacity); list = m.list }

  capacity : m.new.capacity ≡ c
  capacity = f.going.over.capacity ∙ start.capacity

  -- the new table's numbers and counters do not touch its parts
  calm : Calm (inherit m.new m.old)
  unfolding inherit
  calm = let w = f.going.new.calm in record { inv = w.inv; quiet = w.quiet; distinct = w.distinct }

  place : (s : ℕ) → s < t.capacity → is_clean (slot_at t s) ≡ true → Place t (inherit m.new m.old) pins m.list s
  unfolding inherit
  place s hs cs =
      elim (f.going.fates s hs cs) [
        | waits! a b q ↦ absurd (omega arith)
        | went! p q ↦
            let g = f.going.new.origin p.slot p.low p.clean in
            let e : g.slot ≡ s = one_clean w g.slot s g.low hs g.clean cs (sym g.key ∙ p.key) in
            kept! (rw q p.low) (rw q p.clean) (rw q p.key) (rw q (g.last ∙ ap (λ (z : ℕ). (slot_at t z).last_access) e))
        | gone! a b q why ↦
            let free : unpinned pins s ≡ true = elim (is (unpinned pins s)) [ yes! e ↦ e | no! e ↦ absurd (not_present q (over_present f.going.over (start.behind s hs e))) ] in
            let falls : m.new.capacity < t.capacity = elim (is (ltb t.capacity m.new.capacity)) [
              | no! e ↦ omega (arith, ltb-false t.capacity m.new.capacity e, capacity, ne)
              | yes! e ↦ elim why [
                | dropped! b old ↦ absurd (omega (arith, slots_sum w.inv, ltb-true t.capacity m.new.capacity e))
                | choked! b ↦ absurd (not_full t w m.new f.going.new (ltb-true t.capacity m.new.capacity e) s hs cs q b)
              ]
            ] in
            lost! b q free falls (elim why [ dropped! z old ↦ too_many! z (λ r hr cr ur p. old r hr cr ur (inl (record { slot = p.slot; low = p.low; clean = p.clean; key = p.key }))) | choked! z ↦ full_chain! z ])
      ]

  source : (x : ℕ) → x < m.new.capacity → is_clean (slot_at m.new x) ≡ true → Source t (inherit m.new m.old) m.list x
  unfolding inherit
  source x hx cx =
      let g = f.going.new.origin x hx cx in
      let gives : get_or m.list g.slot NONE ≡ x = elim (f.going.fates g.slot g.low g.clean) [
        | waits! a b q ↦ absurd (omega (arith, g.low))
        | went! p q ↦ q ∙ one_clean f.going.new.calm p.slot x p.low hx p.clean cx (p.key ∙ sym g.key)
        | gone! a b q why ↦ absurd (q x hx (clean_occupied (slot_at m.new x) cx) g.key)
      ] in
      record { slot = g.slot; low = g.low; clean = g.clean; gives = gives; key = g.key; last = g.last; zero = g.zero }

  remade : Remade t pins made
  unfolding inherit
  remade =
      record {
        quiet = w.quiet;
        calm = calm;
        answer = refl;
        other = λ e. ne (sym capacity ∙ e);
        size = f.going.size;
        plain = f.going.plain;
        places = place;
        sources = source;
        uses = f.going.old.uses;
        generations = f.going.old.generations;
      }

  ended : Reaches (Makes t pins c) (ok made)
  unfolding inherit
  ended = record { value = made; gives = refl; good = record { capacity = capacity; remade = remade } }

-- ── the four steps ──
pub remake_law : (t : State) → Calm t → (pins : List ℕ) (n : State) (c : ℕ) → Pinning t pins c t.capacity n → (c ≡ t.capacity → ⊥) → Reaches (Makes t pins c) (remake t n)
unfolding remake
remake_law t w pins n c p ne =
    let one = leave_pinned_lem t w pins n p.drawn p.only in
    let lo = one.good.going.old in
    let two = drop_oldest_lem t w.inv pins n 257 one.value (omega (arith, slots_sum lo.inv, lo.inv.small)) one.good in
    let three = restore_rest_lem t w pins n two.value two.good in
    let four = move_rest_lem t pins n three.value three.good in
    rw (one.gives, two.gives, three.gives, four.gives) (ended t w pins n c p ne four.value four.good)
