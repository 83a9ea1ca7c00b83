-- SPDX-License-Identifier: Apache-2.0
-- The keys that stay over a remaking, slot by slot: each is in the slot that the list gives, no two are in one, and they and the dropped ones are those that
-- there were. Assumes nothing.
use Prim.Native.Nat.{ℕ, ◌+◌, ◌<◌}
use native.Mathlib.Omega.{arith}
use mathlib.Core.Path.{◌≡◌, refl, sym, ap, ◌∙◌, subst}
use mathlib.Core.Bool.{Bool, true, false, not, ◌&&◌}
use mathlib.Core.List.{List, [], ◌∷◌, map}
use lib.Dec.{eqb}
use lib.ListN.{length-map, get_or}
use borrow.Author.Tests.{eqb-false, ne_eqb, not-true}
use Rattle.basics.specs.Numbers.{NONE}
use Rattle.basics.specs.Lists.{down, keep}
use Rattle.basics.specs.Members.{In, Once}
use Rattle.basics.specs.Counts.{bit, count}
use Rattle.basics.proofs.Tests.{and_left, and_right}
use Rattle.basics.proofs.Keeps.{in_keep, keep_in, once_keep, keep_length, count_list}
use Rattle.basics.proofs.Members.{in_map, map_in, once_map, in_down, down_in, once_down}
use Rattle.state.specs.declared.State.{State}
use Rattle.state.specs.Slots.{slot_at, is_clean}
use Rattle.maintenance_resize.specs.Answers.{Resizing}
use Rattle.maintenance_resize.specs.Cost.{dropped}
use Rattle.laws_table.specs.Table.{how_many, Distinct}
use Rattle.laws_table.proofs.SlotKinds.{clean_occupied}
use Rattle.laws_maintenance.specs.Remade.{kept!, lost!, Remade}

-- of a list, those that pass p are those that pass q too and those that do not
pub count_both : {A : Type 0} (p q : A → Bool) (l : List A) → count (λ x. p x && q x) l + count (λ x. p x && not (q x)) l ≡ count p l
count_both p q [] = refl
count_both p q (a ∷ l) = omega (arith, count_both p q l, parts (p a) (q a))
  where
    parts : (b c : Bool) → bit (b && c) + bit (b && not c) ≡ bit b
    parts true true = refl
    parts true false = refl
    parts false c = refl

module _ (t : State) (pins : List ℕ) (r : Resizing) (m : Remade t pins r) where
  abbrev to : ℕ → ℕ
  to s = get_or r.list s NONE

  -- a key that stays, of the old slot s, is in the new slot
  pub record Stayed (s : ℕ) : Type 0 where
    pub low : to s < r.table.capacity
    pub clean : is_clean (slot_at r.table (to s)) ≡ true
    pub key : (slot_at r.table (to s)).key ≡ (slot_at t s).key
    pub last : (slot_at r.table (to s)).last_access ≡ (slot_at t s).last_access

  pub stayed : (s : ℕ) → s < t.capacity → is_clean (slot_at t s) ≡ true → (to s ≡ NONE → ⊥) → Stayed s
  stayed s hs c ne =
      elim (m.places s hs c) [
        | kept! a b k l ↦ record { low = a; clean = b; key = k; last = l }
        | lost! a b k l y ↦ absurd (ne a)
      ]

  module _ (dis : Distinct t.slots t.capacity) where
    -- no two go to one slot
    pub apart : (x y : ℕ) → x < t.capacity → y < t.capacity → is_clean (slot_at t x) ≡ true → is_clean (slot_at t y) ≡ true
        → (to x ≡ NONE → ⊥) → to x ≡ to y → x ≡ y
    apart x y hx hy cx cy nx e =
        let a = stayed x hx cx nx in
        let b = stayed y hy cy (λ q. nx (e ∙ q)) in
        dis x y hx hy (clean_occupied (slot_at t x) cx) (clean_occupied (slot_at t y) cy) (sym a.key ∙ ap (λ (z : ℕ). (slot_at r.table z).key) e ∙ b.key)

    -- ── how many ──
    abbrev clean_at : ℕ → Bool
    clean_at s = is_clean (slot_at t s)

    abbrev stay : ℕ → Bool
    stay s = clean_at s && not (eqb (to s) NONE)

    abbrev stays : List ℕ
    stays = keep stay (down t.capacity)

    record Stays (s : ℕ) : Type 0 where
      pub low : s < t.capacity
      pub clean : clean_at s ≡ true
      pub some : to s ≡ NONE → ⊥

    one_stays : (s : ℕ) → In s stays → Stays s
    one_stays s i =
        let (d, e) = keep_in stay (down t.capacity) s i in
        record {
          low = down_in t.capacity s d;
          clean = and_left (clean_at s) (not (eqb (to s) NONE)) e;
          some = eqb-false (to s) NONE (not-true (eqb (to s) NONE) (and_right (clean_at s) (not (eqb (to s) NONE)) e));
        }

    inside : (x : ℕ) → In x (map to stays) → (x < r.table.capacity) × (is_clean (slot_at r.table x) ≡ true)
    inside x i = let (s, j, e) = map_in to stays x i in let a = one_stays s j in let b = stayed s a.low a.clean a.some in rw e (b.low, b.clean)

    -- each new clean slot is one of theirs
    reached : (x : ℕ) → x < r.table.capacity → is_clean (slot_at r.table x) ≡ true → In x (map to stays)
    reached x hx c =
        let s = m.sources x hx c in
        let e : stay s.slot ≡ true = rw (s.clean, ne_eqb (to s.slot) NONE (λ n. omega (arith, s.gives, m.calm.inv.small))) refl in
        subst (λ (z : ℕ). In z (map to stays)) s.gives (in_map to (in_keep stay (in_down t.capacity s.slot s.low) e))

    pub remade_parts : dropped t r.list + how_many is_clean r.table.slots r.table.capacity ≡ how_many is_clean t.slots t.capacity
    unfolding dropped
    remade_parts =
        let once : Once (map to stays) = once_map to stays (once_keep stay (down t.capacity) (once_down t.capacity)) (λ x y i j e.
        let a = one_stays x i in
        let b = one_stays y j in
        apart x y a.low b.low a.clean b.clean a.some e) in
        let new = count_list (λ x. is_clean (slot_at r.table x)) r.table.capacity (map to stays) once inside reached in
        omega (arith, new, length-map stays to, keep_length stay (down t.capacity), count_both clean_at (λ s. eqb (to s) NONE) (down t.capacity))
