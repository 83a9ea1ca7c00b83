-- SPDX-License-Identifier: Apache-2.0
-- The ledger's keys stand in the table's occupied slots, one in each, whatever tokens were shown: kept where one slot is anew, where many are vacant, and over
-- a remaking. Assumes nothing.
use Prim.Native.Nat.{ℕ, ◌+◌, ◌<◌}
use native.Mathlib.Omega.{arith}
use mathlib.Core.Path.{◌≡◌, refl, sym, ap, ◌∙◌, subst}
use mathlib.Core.Bool.{Bool, true, false, not, false≢true}
use mathlib.Core.List.{List, [], ◌∷◌, map}
use lib.Dec.{eqb}
use lib.ListN.{length, get_or, length-map}
use borrow.Author.Tests.{eqb-true, eqb-false, eq-eqb, ne_eqb, not-true}
use Rattle.basics.specs.Numbers.{NONE}
use Rattle.basics.specs.Lists.{down, keep, some?}
use Rattle.basics.specs.Members.{In, here, there, Once}
use Rattle.basics.specs.Counts.{bit, count}
use Rattle.basics.proofs.Tests.{yes!, no!, is}
use Rattle.basics.proofs.Members.{in_none, in_case, not_in, not_in_list, in_map, map_in, once_map}
use Rattle.basics.proofs.Keeps.{in_keep, keep_in, keep_length, count_list}
use Rattle.state.specs.declared.Slot.{Slot}
use Rattle.state.specs.declared.State.{State}
use Rattle.state.specs.Slots.{slot_at, is_loading, is_clean, occupied}
use Rattle.state.specs.Fresh.{fresh}
use Rattle.maintenance_resize.specs.Answers.{Resizing}
use Rattle.laws_table.specs.Table.{Inv, Distinct, Step}
use Rattle.laws_table.proofs.ValidSteps.{step_here, step_other}
use Rattle.laws_table.proofs.SlotKinds.{one_kind, clean_occupied, vacant_free}
use Rattle.laws_maintenance.specs.Remade.{Remade}
use Rattle.laws_maintenance.specs.Reclaimed.{Reclaimed}
use Rattle.laws_maintenance.proofs.CalmTables.{calm_clean, fresh_free}
use Rattle.laws_maintenance.proofs.RemadeSlots.{count_both, Stayed, stayed, apart}
use Rattle.ledger.specs.Ledger.{Held, not_at, stays, moved_one}
use Rattle.ledger.proofs.Keys.Lists.{keep_all, any, nil, any_is, some_in}
use Rattle.ledger.proofs.Keys.Apart.{slots_of}
use Rattle.ledger.proofs.Keys.Slots.{not_in_held}

-- ── the slots of a list of keys ──
abbrev slot : Held → ℕ
slot h = h.slot

once_left : (p : Held → Bool) (hs : List Held) → Once (slots_of hs) → Once (slots_of (keep p hs))
unfolding keep
once_left p [] o = tt
once_left p (h ∷ hs) o =
    elim (is (p h)) [
      | yes! e ↦ rw e (
        not_in_list h.slot (slots_of (keep p hs)) (λ m. let q = map_in slot (keep p hs) h.slot m in not_in o.0 (in_map slot (keep_in p hs q.0 q.1).0) q.2),
        once_left p hs o.1,
      )
      | no! e ↦ rw e (once_left p hs o.1)
    ]

slots_same : (f : Held → Held) → ((h : Held) → (f h).slot ≡ h.slot) → (hs : List Held) → slots_of (map f hs) ≡ slots_of hs
slots_same f k [] = refl
slots_same f k (h ∷ hs) = rw (k h, slots_same f k hs)

slots_moved : (list : List ℕ) (hs : List Held) → slots_of (map (moved_one list) hs) ≡ map (λ x. get_or list x NONE) (slots_of hs)
unfolding moved_one
slots_moved list [] = refl
slots_moved list (h ∷ hs) = rw (slots_moved list hs)

-- ── the relation ──
pub record Placed (t : State) (hs : List Held) : Type 0 where
  pub once : Once (slots_of hs)
  pub low : (h : Held) → In h hs → h.slot < t.capacity
  pub held : (h : Held) → In h hs → occupied (slot_at t h.slot) ≡ true
  pub key : (h : Held) → In h hs → (slot_at t h.slot).key ≡ h.key
  pub whole : (x : ℕ) → x < t.capacity → occupied (slot_at t x) ≡ true → In x (slots_of hs)

-- the slots that hold a key are those of the keys
pub placed_told : {t : State} {hs : List Held} → Placed t hs → (x : ℕ) → x < t.capacity → occupied (slot_at t x) ≡ some? (λ (h : Held). eqb h.slot x) hs
placed_told {t} {hs} o x hx =
    elim (any_is (λ (h : Held). eqb h.slot x) hs) [
      | any q h i e ↦ rw (q, ← eqb-true h.slot x e) (o.held h i)
      | nil q n ↦ rw q (elim (is (occupied (slot_at t x))) [
        | no! z ↦ z
        | yes! z ↦ let (h, j, e) = map_in slot hs x (o.whole x hx z) in absurd (false≢true (sym (n h j) ∙ eq-eqb h.slot x (sym e)))
      ])
    ]

-- numbers, counters, and what no slot shows aside
pub placed_same : {t u : State} {hs : List Held} → u.slots ≡ t.slots → u.capacity ≡ t.capacity → Placed t hs → Placed u hs
placed_same es ec o =
    record {
      once = o.once;
      low = λ h i. omega (arith, o.low h i);
      held = λ h i. rw es (o.held h i);
      key = λ h i. rw es (o.key h i);
      whole = λ x hx e. o.whole x (omega arith) (rw es at e);
    }

pub placed_fresh : (c : ℕ) → Placed (fresh c) []
placed_fresh c = record { once = tt; low = λ h i. in_none i; held = λ h i. in_none i; key = λ h i. in_none i; whole = λ x hx e. absurd (false≢true (sym (fresh_free c x) ∙ e)) }

-- ── how many ──
one_of : (b : Bool) → bit (not b) + bit b ≡ 1
one_of true = refl
one_of false = refl

-- an occupied slot is clean or loading
two_kinds : (s : Slot) → bit (is_clean s) + bit (is_loading s) ≡ bit (occupied s)
two_kinds s = let e = one_kind s in let w = one_of (occupied s) in omega arith

count_sum : {A : Type 0} (p q r : A → Bool) (l : List A) → ((x : A) → bit (p x) + bit (q x) ≡ bit (r x)) → count p l + count q l ≡ count r l
count_sum p q r [] h = refl
count_sum p q r (a ∷ l) h = omega (arith, h a, count_sum p q r l h)

pub placed_count : {t : State} {hs : List Held} → Inv t → Placed t hs → length hs ≡ t.clean + t.loading
placed_count {t} {hs} v o =
    let p : ℕ → Bool = λ x. occupied (slot_at t x) in
    let all : count p (down t.capacity) ≡ length (slots_of hs) =
    count_list p t.capacity (slots_of hs) o.once (λ x i. let (h, j, e) = map_in slot hs x i in rw e (o.low h j, o.held h j)) o.whole in
    let sum = count_sum (λ (x : ℕ). is_clean (slot_at t x)) (λ (x : ℕ). is_loading (slot_at t x)) p (down t.capacity) (λ x. two_kinds (slot_at t x)) in
    omega (arith, length-map hs slot, v.clean, v.loading)

-- ── one key changed, come or gone ──
-- a change that moves no key
pub placed_map : {t : State} {hs : List Held} (f : Held → Held) → ((h : Held) → (f h).slot ≡ h.slot) → ((h : Held) → (f h).key ≡ h.key) → Placed t hs → Placed t (map f hs)
placed_map {t} {hs} f es ek o =
    record {
      once = rw (slots_same f es hs) o.once;
      low = λ g i. let (h, j, e) = map_in f hs g i in rw (e, es h) (o.low h j);
      held = λ g i. let (h, j, e) = map_in f hs g i in rw (e, es h) (o.held h j);
      key = λ g i. let (h, j, e) = map_in f hs g i in rw (e, es h, ek h) (o.key h j);
      whole = λ x hx e. rw (slots_same f es hs) (o.whole x hx e);
    }

module _ {t u : State} {hs : List Held} (v : Inv t) (o : Placed t hs) {x nu ng nc nl : ℕ} {s : Slot} (p : Step t u x s nu ng nc nl) where
  -- the slot keeps its key
  pub placed_kept : occupied s ≡ true → occupied (slot_at t x) ≡ true → s.key ≡ (slot_at t x).key → Placed u hs
  placed_kept e was ek =
      record {
        once = o.once;
        low = λ h i. omega (arith, o.low h i, p.capacity);
        held = λ h i. elim (is (eqb h.slot x)) [ yes! q ↦ rw (eqb-true h.slot x q, step_here p v) e | no! q ↦ rw (step_other p h.slot (eqb-false h.slot x q)) (o.held h i) ];
        key = λ h i. elim (is (eqb h.slot x)) [
          | yes! q ↦ let z = eqb-true h.slot x q in rw (z, step_here p v) (ek ∙ rw z at (o.key h i))
          | no! q ↦ rw (step_other p h.slot (eqb-false h.slot x q)) (o.key h i)
        ];
        whole = λ y hy q. elim (is (eqb y x)) [
          | yes! z ↦ rw (eqb-true y x z) (o.whole x p.low was)
          | no! z ↦ o.whole y (omega (arith, p.capacity)) (rw (step_other p y (eqb-false y x z)) at q)
        ];
      }

  -- the keys of the other slots
  others : (h : Held) → In h (keep (not_in_held x) hs) → In h hs × (h.slot ≡ x → ⊥)
  others h i = let k = keep_in (not_in_held x) hs h i in (k.0, eqb-false h.slot x (not-true (eqb h.slot x) k.1))

  other_slot : (y : ℕ) → (y ≡ x → ⊥) → In y (slots_of hs) → In y (slots_of (keep (not_in_held x) hs))
  other_slot y ne i = let (h, j, e) = map_in slot hs y i in rw e (in_map slot (in_keep (not_in_held x) j (rw (ne_eqb h.slot x (λ z. ne (e ∙ z))))))

  -- it is vacant, and its key gone
  pub placed_left : occupied s ≡ false → Placed u (keep (not_in_held x) hs)
  placed_left e =
      record {
        once = once_left (not_in_held x) hs o.once;
        low = λ h i. omega (arith, o.low h (others h i).0, p.capacity);
        held = λ h i. let k = others h i in rw (step_other p h.slot k.1) (o.held h k.0);
        key = λ h i. let k = others h i in rw (step_other p h.slot k.1) (o.key h k.0);
        whole = λ y hy q. elim (is (eqb y x)) [
          | yes! z ↦ absurd (false≢true (sym e ∙ sym (ap occupied (step_here p v)) ∙ rw (eqb-true y x z) at q))
          | no! z ↦ let ne = eqb-false y x z in other_slot y ne (o.whole y (omega (arith, p.capacity)) (rw (step_other p y ne) at q))
        ];
      }

  -- it has a new key, and the key that it had, if any, is gone
  pub placed_new : (h : Held) → h.slot ≡ x → s.key ≡ h.key → occupied s ≡ true → Placed u (h ∷ keep (not_in_held x) hs)
  placed_new h hx ek e =
      record {
        once = (not_in_list h.slot (slots_of (keep (not_in_held x) hs)) (λ m. let (g, j, q) = map_in slot (keep (not_in_held x) hs) h.slot m in (others g j).1 (sym q ∙ hx)), once_left (not_in_held x) hs o.once);
        low = λ g i. in_case i (λ q. rw (q, hx) (omega (arith, p.low, p.capacity))) (λ j. omega (arith, o.low g (others g j).0, p.capacity));
        held = λ g i. in_case i (λ q. rw (q, hx, step_here p v) e) (λ j. let k = others g j in rw (step_other p g.slot k.1) (o.held g k.0));
        key = λ g i. in_case i (λ q. rw (q, hx, step_here p v) ek) (λ j. let k = others g j in rw (step_other p g.slot k.1) (o.key g k.0));
        whole = λ y hy q. elim (is (eqb y x)) [
          | yes! z ↦ rw (eqb-true y x z, ← hx) here
          | no! z ↦ let ne = eqb-false y x z in there (other_slot y ne (o.whole y (omega (arith, p.capacity)) (rw (step_other p y ne) at q)))
        ];
      }

-- ── many keys gone ──
pub placed_reclaimed : {t u : State} {pins gone : List ℕ} {hs : List Held} → Placed t hs → Reclaimed t pins u gone → Placed u (not_at gone hs)
unfolding not_at
placed_reclaimed {t} {u} {pins} {gone} {hs} o r =
    let p : Held → Bool = λ h. not (some? (eqb h.slot) gone) in
    let out : (h : Held) → p h ≡ true → In h.slot gone → ⊥ =
    λ h e i. false≢true (sym (not-true (some? (eqb h.slot) gone) e) ∙ some_in (eqb h.slot) gone h.slot i (eq-eqb h.slot h.slot refl)) in
    record {
      once = once_left p hs o.once;
      low = λ h i. omega (arith, o.low h (keep_in p hs h i).0, r.capacity);
      held = λ h i. let k = keep_in p hs h i in rw (r.stays h.slot (out h k.1)) (o.held h k.0);
      key = λ h i. let k = keep_in p hs h i in rw (r.stays h.slot (out h k.1)) (o.key h k.0);
      whole = λ y hy q.
          elim (any_is (eqb y) gone) [
            | any e a i f ↦ absurd (false≢true (sym vacant_free ∙ rw (r.out y (rw (eqb-true y a f) i)) at q))
            | nil e n ↦
                let ne : In y gone → ⊥ = λ i. false≢true (sym (n y i) ∙ eq-eqb y y refl) in
                let (h, j, z) = map_in slot hs y (o.whole y (omega (arith, r.capacity)) (rw (r.stays y ne) at q)) in
                rw z (in_map slot (in_keep p j (rw (← z, e))))
          ];
    }

-- ── a remaking ──
module _ {t : State} {pins : List ℕ} {hs : List Held} {z : Resizing} (v : Inv t) (dis : Distinct t.slots t.capacity) (o : Placed t hs) (k : Remade t pins z) where
  abbrev to : ℕ → ℕ
  to x = get_or z.list x NONE

  all_clean : (h : Held) → In h hs → is_clean (slot_at t h.slot) ≡ true
  all_clean h i = calm_clean t v k.quiet h.slot (o.low h i) (o.held h i)

  stay_some : (h : Held) → stays z.list h ≡ true → to h.slot ≡ NONE → ⊥
  unfolding stays
  stay_some h e = eqb-false (to h.slot) NONE (not-true (eqb (to h.slot) NONE) e)

  -- a key that stays is in the slot that the list gives it
  moved_to : (h : Held) → In h hs → stays z.list h ≡ true → Stayed t pins z k h.slot
  moved_to h i e = stayed t pins z k h.slot (o.low h i) (all_clean h i) (stay_some h e)

  pub placed_moved : Placed z.table (map (moved_one z.list) (keep (stays z.list) hs))
  unfolding moved_one stays
  placed_moved =
      let p : Held → Bool = stays z.list in
      let was : (g : Held) → In g (map (moved_one z.list) (keep p hs)) → (h : Held) × In h hs × (p h ≡ true) × (g ≡ moved_one z.list h) =
      λ g i. let (h, j, e) = map_in (moved_one z.list) (keep p hs) g i in let q = keep_in p hs h j in (h, q.0, q.1, e) in
      record {
        once = rw (slots_moved z.list (keep p hs)) (once_map to (slots_of (keep p hs)) (once_left p hs o.once) (λ x y m n e.
            let (h, i, a) = map_in slot (keep p hs) x m in
            let (g, j, b) = map_in slot (keep p hs) y n in
            let hk = keep_in p hs h i in
            let gk = keep_in p hs g j in
            rw (a, b) (apart t pins z k dis h.slot g.slot (o.low h hk.0) (o.low g gk.0) (all_clean h hk.0) (all_clean g gk.0) (stay_some h hk.1) (rw (a, b) at e))));
        low = λ g i. let (h, j, e, q) = was g i in rw q (moved_to h j e).low;
        held = λ g i. let (h, j, e, q) = was g i in rw q (clean_occupied (slot_at z.table (to h.slot)) (moved_to h j e).clean);
        key = λ g i. let (h, j, e, q) = was g i in rw q ((moved_to h j e).key ∙ o.key h j);
        whole = λ y hy q.
            let s = k.sources y hy (calm_clean z.table k.calm.inv k.calm.quiet y hy q) in
            let (h, j, e) = map_in slot hs s.slot (o.whole s.slot s.low (clean_occupied (slot_at t s.slot) s.clean)) in
            let b : to h.slot ≡ y = rw e at s.gives in
            let w : p h ≡ true = rw (ne_eqb (to h.slot) NONE (λ n. omega (arith, b, k.calm.inv.small))) in
            subst (λ (x : ℕ). In x (slots_of (map (moved_one z.list) (keep p hs)))) b (in_map slot (in_map (moved_one z.list) (in_keep p j w)));
      }

  -- what is clean after it and what was dropped
  pub moved_count : z.table.clean + length (keep (λ h. not (stays z.list h)) hs) ≡ t.clean
  moved_count =
      let p : Held → Bool = stays z.list in
      omega (
        arith,
        placed_count v o,
        placed_count k.calm.inv placed_moved,
        k.quiet,
        k.calm.quiet,
        length-map (keep p hs) (moved_one z.list),
        count_both (λ h. true) p hs,
        keep_length p hs,
        keep_length (λ h. not (p h)) hs,
        keep_length (λ h. true) hs,
        ap length (keep_all (λ h. true) hs (λ h i. refl)),
      )
