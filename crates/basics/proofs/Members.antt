-- SPDX-License-Identifier: Apache-2.0
-- Laws on `In` and `Once`: a slot taken out of a list, and a list mapped. Assumes nothing.
use Rattle.std.proofs.Common.{if◌then◌else◌}
use Prim.Native.Nat.{ℕ, zero, suc, ◌-◌, ◌<◌, ◌≤◌}
use native.Mathlib.Omega.{arith}
use mathlib.Core.Path.{◌≡◌, refl, sym, ap, ◌∙◌}
use mathlib.Core.List.{List, [], ◌∷◌, map}
use lib.Dec.{eqb}
use lib.ListN.{length, get_or}
use borrow.Author.Tests.{eqb-true, eqb-false, eq-eqb, ne_eqb}
use Rattle.basics.specs.Lists.{down}
use Rattle.basics.specs.Members.{In, here, there, NotIn, Once}
use Rattle.basics.proofs.Tests.{yes!, no!, is}

pub in_none : {A : Type 0} {P : Type 0} {y : A} → In y [] → P
in_none m = elim m [ ]

pub in_case : {A : Type 0} {P : Type 0} {y z : A} {l : List A} → In y (z ∷ l) → (y ≡ z → P) → (In y l → P) → P
in_case here a b = a refl
in_case (there m) a b = b m

pub not_in : {x y : ℕ} {xs : List ℕ} → NotIn y xs → In x xs → y ≡ x → ⊥
not_in ni here e = ni.0 e
not_in ni (there m) e = not_in ni.1 m e

pub not_in_list : (y : ℕ) (xs : List ℕ) → (In y xs → ⊥) → NotIn y xs
not_in_list y [] n = tt
not_in_list y (z ∷ zs) n = (λ e. n (rw e here), not_in_list y zs (λ m. n (there m)))

-- the list without the first x
unfoldable pub cut : ℕ → List ℕ → List ℕ
cut x [] = []
cut x (y ∷ ys) = if eqb y x then ys else y ∷ cut x ys

pub cut_length : (x : ℕ) (xs : List ℕ) → length (cut x xs) ≤ length xs
unfolding cut
cut_length x [] = omega arith
cut_length x (y ∷ ys) = elim (is (eqb y x)) [ yes! e ↦ rw e (omega arith) | no! e ↦ rw e (omega (arith, cut_length x ys)) ]

pub cut_shorter : {x : ℕ} {ys : List ℕ} → In x ys → suc (length (cut x ys)) ≡ length ys
unfolding cut
cut_shorter {x} (here {l = ys}) = rw (eq-eqb x x refl)
cut_shorter {x} (there {b = y} {l = ys} m) = elim (is (eqb y x)) [ yes! e ↦ rw e | no! e ↦ rw e (omega (arith, cut_shorter m)) ]

-- what is in the cut list was in the list, and is not x
pub cut_in : (x y : ℕ) (xs : List ℕ) → Once xs → In y (cut x xs) → In y xs × (y ≡ x → ⊥)
unfolding cut
cut_in x y [] o m = in_none m
cut_in x y (z ∷ zs) o m =
    elim (is (eqb z x)) [
      | yes! e ↦ let k : In y zs = rw e at m in (there k, λ q. not_in o.0 k (eqb-true z x e ∙ sym q))
      | no! e ↦ let k : In y (z ∷ cut x zs) = rw e at m in
          in_case k (λ q. (rw q here, λ w. eqb-false z x e (sym q ∙ w))) (λ n. (there (cut_in x y zs o.1 n).0, (cut_in x y zs o.1 n).1))
    ]

pub in_cut : {x y : ℕ} {xs : List ℕ} → In y xs → (y ≡ x → ⊥) → In y (cut x xs)
unfolding cut
in_cut {x} {y} (here {l = ys}) n = rw (ne_eqb y x n) here
in_cut {x} (there {b = z} {l = zs} m) n = elim (is (eqb z x)) [ yes! e ↦ rw e m | no! e ↦ rw e (there (in_cut m n)) ]

pub not_cut : (x y : ℕ) (xs : List ℕ) → NotIn y xs → NotIn y (cut x xs)
unfolding cut
not_cut x y [] n = tt
not_cut x y (z ∷ zs) n = elim (is (eqb z x)) [ yes! e ↦ rw e n.1 | no! e ↦ rw e (n.0, not_cut x y zs n.1) ]

pub once_cut : (x : ℕ) (xs : List ℕ) → Once xs → Once (cut x xs)
unfolding cut
once_cut x [] o = tt
once_cut x (z ∷ zs) o = elim (is (eqb z x)) [ yes! e ↦ rw e o.1 | no! e ↦ rw e (not_cut x z zs o.0, once_cut x zs o.1) ]

-- the pigeonhole: what is in one list, each once, is no more than a list that has it all
pub inject : (xs ys : List ℕ) → Once xs → ((x : ℕ) → In x xs → In x ys) → length xs ≤ length ys
inject [] ys o f = omega arith
inject (x ∷ xs) ys o f =
    omega (arith, inject xs (cut x ys) o.1 (λ y m. in_cut (f y (there m)) (λ q. not_in o.0 m (sym q))), cut_shorter (f x here))

-- a list mapped
pub in_map : {A B : Type 0} (f : A → B) {x : A} {l : List A} → In x l → In (f x) (map f l)
in_map f here = here
in_map f (there m) = there (in_map f m)

pub map_in : {A B : Type 0} (f : A → B) (l : List A) (y : B) → In y (map f l) → (x : A) × In x l × (y ≡ f x)
map_in f [] y m = in_none m
map_in f (a ∷ l) y m = in_case m (λ q. (a, here, q)) (λ n. let r = map_in f l y n in (r.0, there r.1, r.2))

pub map_agree : {A B : Type 0} (f g : A → B) (l : List A) → ((x : A) → In x l → f x ≡ g x) → map f l ≡ map g l
map_agree f g [] h = refl
map_agree f g (a ∷ l) h = rw (h a here, map_agree f g l (λ x m. h x (there m)))

pub once_map : (f : ℕ → ℕ) (l : List ℕ) → Once l → ((x y : ℕ) → In x l → In y l → f x ≡ f y → x ≡ y) → Once (map f l)
once_map f [] o h = tt
once_map f (a ∷ l) o h = (
  not_in_list (f a) (map f l) (λ m. let r = map_in f l (f a) m in not_in o.0 r.1 (h a r.0 here (there r.1) r.2)),
  once_map f l o.1 (λ x y m n. h x y (there m) (there n)),
)

-- the list n − 1, .., 1, 0
pub in_down : (n i : ℕ) → i < n → In i (down n)
unfolding down
in_down zero i h = absurd (omega arith)
in_down (suc n) i h = elim (is (eqb i n)) [ yes! e ↦ rw (eqb-true i n e) here | no! e ↦ there (in_down n i (omega (arith, eqb-false i n e))) ]

pub down_in : (n i : ℕ) → In i (down n) → i < n
unfolding down
down_in zero i m = in_none m
down_in (suc n) i m = in_case m (λ e. omega arith) (λ k. omega (arith, down_in n i k))

pub once_down : (n : ℕ) → Once (down n)
unfolding down
once_down zero = tt
once_down (suc n) = (not_in_list n (down n) (λ m. let z = down_in n n m in omega arith), once_down n)

pub down_length : (n : ℕ) → length (down n) ≡ n
unfolding down
down_length zero = refl
down_length (suc n) = ap {B = ℕ} suc (down_length n)

pub down_at : (n i : ℕ) → i < n → get_or (down n) i 0 ≡ n - 1 - i
unfolding down
down_at zero i h = absurd (omega arith)
down_at (suc n) zero h = omega arith
down_at (suc n) (suc i) h = omega (arith, down_at n i (omega arith))
