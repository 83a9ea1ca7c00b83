-- SPDX-License-Identifier: Apache-2.0
-- The key that a list of keys has in a slot: a map from slots that a key put in, taken out or changed changes at one place. Assumes nothing.
use Prim.Native.Nat.{ℕ}
use mathlib.Core.Path.{◌≡◌, refl, sym, ap, ◌∙◌}
use mathlib.Core.Bool.{Bool, true, false, not, ◌||◌, false≢true}
use mathlib.Core.List.{List, [], ◌∷◌, map}
use mathlib.Core.Option.{Option, none, some}
use lib.Dec.{eqb}
use borrow.Author.Tests.{eqb-true, eqb-false, eq-eqb, ne_eqb}
use Rattle.basics.specs.Lists.{keep, some?, first}
use Rattle.basics.specs.Members.{In}
use Rattle.basics.proofs.Tests.{yes!, no!, is}
use Rattle.basics.proofs.Maps.{put}
use Rattle.basics.proofs.Keeps.{hits, fails, look}
use Rattle.key.specs.declared.CacheKey.{CacheKey}
use Rattle.key.specs.Key.{same_key}
use Rattle.ledger.specs.Ledger.{Held, not_at, not_key}
use Rattle.ledger.proofs.Keys.Lists.{keep_agree, first_in, alike, unlike, compared}
use Rattle.ledger.proofs.Keys.Apart.{Apart, one_key, one_slot}

abbrev pub in_slot : ℕ → Held → Bool
in_slot n h = eqb h.slot n

abbrev pub at : List Held → ℕ → Option Held
at hs n = first (λ h. eqb h.slot n) hs

pub at_in : (hs : List Held) → Apart hs → (h : Held) → In h hs → at hs h.slot ≡ some h
at_in hs a h m =
    elim (look (in_slot h.slot) hs) [
      | hits g n q f ↦ f ∙ ap {B = Option Held} some (one_slot hs a g h n m (eqb-true g.slot h.slot q))
      | fails f k ↦ absurd (false≢true (sym (k h m) ∙ eq-eqb h.slot h.slot refl))
    ]

pub in_at : (hs : List Held) (n : ℕ) (h : Held) → at hs n ≡ some h → In h hs × (h.slot ≡ n)
in_at hs n h e = let r = first_in (in_slot n) hs h e in (r.0, eqb-true h.slot n r.1)

pub none_at : (hs : List Held) (n : ℕ) → ((h : Held) → In h hs → h.slot ≡ n → ⊥) → at hs n ≡ none
none_at hs n out = elim (look (in_slot n) hs) [ hits h i q f ↦ absurd (out h i (eqb-true h.slot n q)) | fails f k ↦ f ]

-- ── a key put in front ──
pub at_cons : (h : Held) (hs : List Held) (n : ℕ) → at (h ∷ hs) n ≡ put h.slot (some h) (at hs) n
unfolding first
at_cons h hs n =
    elim (is (eqb h.slot n)) [
      | yes! e ↦ rw (e, eq-eqb n h.slot (sym (eqb-true h.slot n e)))
      | no! e ↦ rw (e, ne_eqb n h.slot (λ q. eqb-false h.slot n e (sym q)))
    ]

-- ── a slot emptied ──
abbrev pub not_in_held : ℕ → Held → Bool
not_in_held x h = not (eqb h.slot x)

or_false : (b : Bool) → (b || false) ≡ b
or_false true = refl
or_false false = refl

pub not_at_lem : (x : ℕ) (hs : List Held) → not_at (x ∷ []) hs ≡ keep (not_in_held x) hs
unfolding not_at some?
not_at_lem x hs = keep_agree (λ (h : Held). not (some? (eqb h.slot) (x ∷ []))) (not_in_held x) hs (λ h i. ap not (or_false (eqb h.slot x)))

pub at_keep : (x n : ℕ) (hs : List Held) → at (keep (not_in_held x) hs) n ≡ put x none (at hs) n
unfolding first keep
at_keep x n [] = elim (is (eqb n x)) [ yes! e ↦ rw e | no! e ↦ rw e ]
at_keep x n (h ∷ hs) =
    elim (is (eqb h.slot x)) [
      | yes! e ↦ rw (e, at_keep x n hs) (elim (is (eqb n x)) [
        | yes! q ↦ rw q
        | no! q ↦ rw (q, ne_eqb h.slot n (λ w. eqb-false n x q (sym w ∙ eqb-true h.slot x e)))
      ])
      | no! e ↦ rw (e, at_keep x n hs) (elim (is (eqb n x)) [
        | yes! q ↦ rw (q, ne_eqb h.slot n (λ w. eqb-false h.slot x e (w ∙ eqb-true n x q)))
        | no! q ↦ rw q
      ])
    ]

-- taken out by a key is taken out by a slot, where that slot and no other has the key
pub not_key_lem : (hs : List Held) (k : CacheKey) (x : ℕ) → ((h : Held) → In h hs → h.key ≡ k → h.slot ≡ x) → ((h : Held) → In h hs → h.slot ≡ x → h.key ≡ k)
    → not_key k hs ≡ keep (not_in_held x) hs
unfolding not_key
not_key_lem hs k x to of =
    keep_agree (λ (h : Held). not (same_key h.key k)) (not_in_held x) hs (λ h i. elim (compared h.key k) [
      | alike e q ↦ rw (e, eq-eqb h.slot x (to h i q))
      | unlike e q ↦ rw (e, ne_eqb h.slot x (λ w. q (of h i w)))
    ])

pub not_key_apart : (hs : List Held) → Apart hs → (g : Held) → In g hs → not_key g.key hs ≡ keep (not_in_held g.slot) hs
not_key_apart hs a g m =
    not_key_lem hs g.key g.slot (λ h i q. ap (λ (u : Held). u.slot) (one_key hs a h g i m q)) (λ h i w. ap (λ (u : Held). u.key) (one_slot hs a h g i m w))

-- ── a key changed, not moved ──
abbrev each : (Held → Held) → Option Held → Option Held
each f none = none
each f (some h) = some (f h)

at_map : (f : Held → Held) (hs : List Held) (n : ℕ) → ((h : Held) → (f h).slot ≡ h.slot) → at (map f hs) n ≡ each f (at hs n)
unfolding first
at_map f [] n k = refl
at_map f (h ∷ hs) n k =
    elim (is (eqb h.slot n)) [
      | yes! e ↦ rw (eq-eqb (f h).slot n (k h ∙ eqb-true h.slot n e), e)
      | no! e ↦ rw (ne_eqb (f h).slot n (λ q. eqb-false h.slot n e (sym (k h) ∙ q)), e) (at_map f hs n k)
    ]

-- f changes no key but g
pub at_one : (f : Held → Held) (hs : List Held) (x : ℕ) (g : Held) → Apart hs → at hs x ≡ some g → ((h : Held) → (f h).slot ≡ h.slot) → ((h : Held) → (h.key ≡ g.key → ⊥) → f h ≡ h)
    → (n : ℕ) → at (map f hs) n ≡ put x (some (f g)) (at hs) n
at_one f hs x g a e k o n =
    at_map f hs n k ∙ elim (is (eqb n x)) [
      | yes! q ↦ rw (q, eqb-true n x q, e)
      | no! q ↦ rw q (elim (look (in_slot n) hs) [
        | hits h m w z ↦ rw z (ap {B = Option Held} some (o h (λ (y : h.key ≡ g.key).
            let s : h ≡ g = one_key hs a h g m (in_at hs x g e).0 y in
            eqb-false n x q (sym (eqb-true h.slot n w) ∙ ap (λ (u : Held). u.slot) s ∙ (in_at hs x g e).1))))
        | fails z h ↦ rw z
      ])
    ]
