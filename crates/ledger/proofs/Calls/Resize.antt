-- SPDX-License-Identifier: Apache-2.0
-- Resize: table and ledger agree after it; pinned keys stay, last uses stay, no key appears, and growing loses none. Assumes nothing.
use Prim.Native.Nat.{ℕ, ◌<◌}
use native.Mathlib.Omega.{arith}
use mathlib.Core.Path.{◌≡◌, refl, sym, ap, ◌∙◌}
use mathlib.Core.Bool.{Bool, true, false, ◌&&◌, ◌||◌, false≢true}
use mathlib.Core.List.{List}
use lib.Dec.{ltb, eqb, T}
use lib.ListN.{get_or}
use borrow.Author.Tests.{not-true, eqb-false, ltb-true, eq-eqb, ne_eqb}
use Rattle.basics.specs.Numbers.{NONE}
use Rattle.basics.specs.Lists.{keep, every}
use Rattle.basics.specs.Members.{In}
use Rattle.basics.proofs.Tests.{yes!, no!, is}
use Rattle.basics.proofs.Members.{in_map, map_in}
use Rattle.basics.proofs.Keeps.{in_keep, keep_in}
use Rattle.key.specs.Key.{same_key}
use Rattle.key.proofs.Keys.{same_key_lem}
use Rattle.state.specs.declared.State.{State}
use Rattle.state.specs.Slots.{slot_at, is_clean, occupied}
use Rattle.maintenance_resize.specs.Answers.{Resizing}
use Rattle.maintenance_resize.specs.Resize as rules
use Rattle.laws_table.proofs.SlotKinds.{clean_occupied}
use Rattle.laws_maintenance.specs.Remade.{kept!, lost!, Remade}
use Rattle.laws_maintenance.specs.Resize.{refused!, unchanged!, busy!, remade! }
use Rattle.laws_maintenance.proofs.CalmTables.{none_loads, calm_clean}
use Rattle.laws_maintenance.proofs.RemadeSlots.{Stayed, stayed}
use Rattle.laws_maintenance.proofs.ResizeLaw.{resize_law}
use Rattle.ledger.specs.Ledger.{Held, Ledger, stays, moved_one, remakes, feed_resize}
use Rattle.ledger.specs.Expect.{unpinned, same_use, present, resize_keeps}
use Rattle.ledger.proofs.Keys.Lists.{some_in, every_in}
use Rattle.ledger.proofs.Keys.Slots.{at, at_in, none_at}
use Rattle.ledger.proofs.Relation.Orderly.{Orderly, orderly_remakes}
use Rattle.ledger.proofs.Relation.Agree.{Agree, as_clean, as_loading, Fit, bare, full, below, shows, clean_in, agree_valid}

-- ── keys that stay ──
present_in : (l : Ledger) (h g : Held) → In g l.held → h.key ≡ g.key → h.last ≡ g.last → present l h ≡ true
unfolding present same_use
present_in l h g i ek el = some_in (λ (y : Held). same_key h.key y.key && eqb h.last y.last) l.held g i (rw (ek, el, same_key_lem g.key, eq-eqb g.last g.last refl))

-- what the claim asks over a resize, key by key
keeps_keys : (pins : List ℕ) (old new : Ledger) → ((h : Held) → In h old.held → unpinned pins h ≡ false → present new h ≡ true) → ((g : Held) → In g new.held → present old g ≡ true)
    → (old.capacity < new.capacity → (h : Held) → In h old.held → present new h ≡ true) → T (resize_keeps pins old new)
unfolding resize_keeps
keeps_keys pins old new pinned none-new grows =
    let one : every (λ h. unpinned pins h || present new h) old.held ≡ true =
    every_in (λ h. unpinned pins h || present new h) old.held (λ h i. elim (is (unpinned pins h)) [ yes! e ↦ rw e | no! e ↦ rw (e, pinned h i e) ]) in
    let two : every (present old) new.held ≡ true = every_in (present old) new.held none-new in
    rw (one, two) (elim (is (ltb old.capacity new.capacity)) [
      | no! e ↦ rw e tt
      | yes! e ↦ rw (e, every_in (present new) old.held (grows (ltb-true old.capacity new.capacity e))) tt
    ])

-- nothing changed
pub keeps_same : (pins : List ℕ) (l : Ledger) → T (resize_keeps pins l l)
keeps_same pins l = keeps_keys pins l l (λ h i e. present_in l h h i refl refl) (λ h i. present_in l h h i refl refl) (λ lt. absurd (omega arith))

-- ── a remaking ──
module _ (t : State) (l : Ledger) (a : Agree t l) (pins : List ℕ) (z : Resizing) (k : Remade t pins z) where
  abbrev n : State
  n = z.table

  abbrev to : Held → ℕ
  to h = get_or z.list h.slot NONE

  abbrev moves : Held → Held
  moves = moved_one z.list

  abbrev stay : Held → Bool
  stay = stays z.list

  abbrev new : Ledger
  new = remakes l n.capacity z.list

  -- every key of the ledger is clean
  all_clean : (h : Held) → In h l.held → (h.clean ≡ true) × (is_clean (slot_at t h.slot) ≡ true) × ((slot_at t h.slot).key ≡ h.key) × ((slot_at t h.slot).last_access ≡ h.last)
  all_clean h i =
      elim (shows t l a h i) [
        | as_clean c e b u ↦ (c, e, b, u)
        | as_loading c e b y q g u m w ↦ absurd (false≢true (sym (none_loads t a.inv k.quiet h.slot (below t l a h i)) ∙ e))
      ]

  stay_low : (h : Held) → to h < n.capacity → stay h ≡ true
  unfolding stays
  stay_low h lt = rw (ne_eqb (to h) NONE (omega (arith, k.calm.inv.small)))

  stay_some : (h : Held) → stay h ≡ true → to h ≡ NONE → ⊥
  unfolding stays
  stay_some h e = eqb-false (to h) NONE (not-true (eqb (to h) NONE) e)

  -- a key that stays is in the slot that the list gives it
  moved_to : (h : Held) → In h l.held → stay h ≡ true → Stayed t pins z k h.slot
  moved_to h i e = stayed t pins z k h.slot (below t l a h i) (all_clean h i).1 (stay_some h e)

  -- the new keys are the old ones that stay, moved
  is_new : (h : Held) → In h l.held → stay h ≡ true → In (moves h) new.held
  unfolding remakes
  is_new h i e = in_map moves (in_keep stay i e)

  was : (g : Held) → In g new.held → (h : Held) × In h l.held × (stay h ≡ true) × (g ≡ moves h)
  unfolding remakes
  was g i = let p = map_in moves (keep stay l.held) g i in let q = keep_in stay l.held p.0 p.1 in (p.0, q.0, q.1, p.2)

  orderly_new : Orderly new
  orderly_new = orderly_remakes l a.orderly n.capacity z.list
      (λ h i e. (moved_to h i e).low)
      (λ h g i j e f q. sym (all_clean h i).2 ∙ sym (moved_to h i e).key ∙ ap (λ (y : ℕ). (slot_at n y).key) q ∙ (moved_to g j f).key ∙ (all_clean g j).2)

  fit_new : (x : ℕ) → x < n.capacity → Fit new x (slot_at n x) (at new.held x)
  unfolding moved_one
  fit_new x hx =
      elim (is (occupied (slot_at n x))) [
        | no! c ↦ bare (none_at new.held x (λ g i e.
            let (h, j, s, q) = was g i in
            let p : to h ≡ x = ap (λ (y : Held). y.slot) (sym q) ∙ e in
            false≢true (sym c ∙ ap (λ (y : ℕ). occupied (slot_at n y)) (sym p) ∙ clean_occupied (slot_at n (to h)) (moved_to h j s).clean))) c
        | yes! c ↦
            let cc = calm_clean n k.calm.inv k.calm.quiet x hx c in
            let s = k.sources x hx cc in
            let w = clean_in t l a s.slot s.low s.clean in
            let e : to w.held ≡ x = ap (λ (y : ℕ). get_or z.list y NONE) w.slot ∙ s.gives in
            let i : In (moves w.held) new.held = is_new w.held w.member (stay_low w.held (rw e hx)) in
            full (moves w.held) (ap (at new.held) (sym e) ∙ at_in new.held orderly_new.apart (moves w.held) i) (as_clean w.clean cc (s.key ∙ w.key) (s.last ∙ w.last))
      ]

  remade_agrees : Agree n new
  unfolding remakes
  remade_agrees =
      record {
        inv = k.calm.inv;
        orderly = orderly_new;
        capacity = refl;
        uses = a.uses ∙ sym k.uses;
        generations = a.generations ∙ sym k.generations;
        fit = fit_new;
        still = λ y i e. let w = a.still y i e in absurd (false≢true (sym (none_loads t a.inv k.quiet y.slot w.low) ∙ w.loading));
      }

  still_present : (h : Held) → In h l.held → stay h ≡ true → present new h ≡ true
  unfolding moved_one
  still_present h i e = present_in new h (moves h) (is_new h i e) refl refl

  remade_keeps : T (resize_keeps pins l new)
  unfolding moved_one remakes
  remade_keeps =
      keeps_keys pins l new
      (λ h i e. elim (k.places h.slot (below t l a h i) (all_clean h i).1) [
        | kept! lt b d u ↦ still_present h i (stay_low h lt)
        | lost! b d p lt w ↦ absurd (false≢true (sym e ∙ p))
      ])
      (λ g i. let (h, j, s, q) = was g i in rw q (present_in l (moves h) h j refl refl))
      (λ grows h i. elim (k.places h.slot (below t l a h i) (all_clean h i).1) [
        | kept! lt b d u ↦ still_present h i (stay_low h lt)
        | lost! b d p lt w ↦ absurd (omega (arith, a.capacity))
      ])

-- ── resize ──
-- the answer keeps what the claim asks, and table and ledger agree after
pub record Kept (l : Ledger) (pins : List ℕ) (r : Resizing) : Type 0 where
  pub keeps : T (resize_keeps pins l (feed_resize l r.answer r.list))
  pub agrees : Agree r.table (feed_resize l r.answer r.list)

module _ (t : State) (l : Ledger) (a : Agree t l) (pins : List ℕ) where
  made : (z : Resizing) → Remade t pins z → Kept l pins z
  unfolding feed_resize
  made z k = record { keeps = rw (k.answer) (remade_keeps t l a pins z k); agrees = rw (k.answer) (remade_agrees t l a pins z k) }

  pub resize_agrees : (asked : ℕ) (list : List ℕ) → Kept l pins (rules.resize t asked pins list)
  unfolding feed_resize
  resize_agrees asked list =
      elim (resize_law t a.inv (agree_valid t l a).1 asked pins list) [
        | refused! n e q q7 ↦ rw e (record { keeps = keeps_same pins l; agrees = a })
        | unchanged! e w ↦ rw e (record { keeps = keeps_same pins l; agrees = a })
        | busy! e w ↦ rw e (record { keeps = keeps_same pins l; agrees = a })
        | remade! k c ↦ made (rules.resize t asked pins list) k
      ]
