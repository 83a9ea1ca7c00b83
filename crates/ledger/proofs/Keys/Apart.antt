-- SPDX-License-Identifier: Apache-2.0
-- Keys no two of which agree in key, slot or last use: a key, a slot or a last use tells which one it is. Assumes nothing.
use Prim.Native.Nat.{ℕ}
use mathlib.Core.Path.{◌≡◌, sym, ◌∙◌}
use mathlib.Core.Bool.{Bool}
use mathlib.Core.List.{List, [], ◌∷◌, map}
use Rattle.basics.specs.Lists.{keep}
use Rattle.basics.specs.Members.{In, here, there, Once}
use Rattle.basics.proofs.Tests.{yes!, no!, is}
use Rattle.basics.proofs.Members.{in_none, in_case, not_in_list, map_in}
use Rattle.basics.proofs.Keeps.{keep_in}
use Rattle.ledger.specs.Ledger.{Held}

abbrev pub Differ : Held → Held → Type 0
Differ h g = (h.key ≡ g.key → ⊥) × (h.slot ≡ g.slot → ⊥) × (h.last ≡ g.last → ⊥)

abbrev pub Apart : List Held → Type 0
Apart [] = Unit {0}
Apart (h ∷ hs) = ((g : Held) → In g hs → Differ h g) × Apart hs

pub apart_keep : (p : Held → Bool) (hs : List Held) → Apart hs → Apart (keep p hs)
unfolding keep
apart_keep p [] a = tt
apart_keep p (h ∷ hs) a = elim (is (p h)) [ yes! e ↦ rw e (λ g m. a.0 g (keep_in p hs g m).0, apart_keep p hs a.1) | no! e ↦ rw e (apart_keep p hs a.1) ]

pub apart_map : (f : Held → Held) (hs : List Held) → ((h g : Held) → In h hs → In g hs → Differ h g → Differ (f h) (f g)) → Apart hs → Apart (map f hs)
apart_map f [] k a = tt
apart_map f (h ∷ hs) k a = (
  λ g m. let r = map_in f hs g m in rw r.2 (k h r.0 here (there r.1) (a.0 r.0 r.1)),
  apart_map f hs (λ x y m n. k x y (there m) (there n)) a.1,
)

-- ── which one ──
data Pair (h g : Held) : Type 0 where
  one : h ≡ g → Pair h g
  two : Differ h g → Pair h g

turned : (h g : Held) → Differ h g → Differ g h
turned h g d = (λ e. d.0 (sym e), λ e. d.1 (sym e), λ e. d.2 (sym e))

pair : (hs : List Held) → Apart hs → (h g : Held) → In h hs → In g hs → Pair h g
pair [] a h g m n = in_none m
pair (x ∷ hs) a h g m n =
    in_case m (λ p. in_case n (λ q. one (p ∙ sym q)) (λ k. two (rw p (a.0 g k))))
    (λ j. in_case n (λ q. two (rw q (turned x h (a.0 h j)))) (λ k. pair hs a.1 h g j k))

module _ (hs : List Held) (a : Apart hs) (h g : Held) (m : In h hs) (n : In g hs) where
  pub one_key : h.key ≡ g.key → h ≡ g
  one_key e = elim (pair hs a h g m n) [ one q ↦ q | two d ↦ absurd (d.0 e) ]

  pub one_slot : h.slot ≡ g.slot → h ≡ g
  one_slot e = elim (pair hs a h g m n) [ one q ↦ q | two d ↦ absurd (d.1 e) ]

  pub one_last : h.last ≡ g.last → h ≡ g
  one_last e = elim (pair hs a h g m n) [ one q ↦ q | two d ↦ absurd (d.2 e) ]

-- ── their slots, each once ──
abbrev pub slots_of : List Held → List ℕ
slots_of hs = map (λ (h : Held). h.slot) hs

pub once_slots : (hs : List Held) → Apart hs → Once (slots_of hs)
once_slots [] a = tt
once_slots (h ∷ hs) a = (
  not_in_list h.slot (slots_of hs) (λ i. let q = map_in (λ (h : Held). h.slot) hs h.slot i in (a.0 q.0 q.1).1 q.2),
  once_slots hs a.1,
)
