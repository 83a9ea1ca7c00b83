-- SPDX-License-Identifier: Apache-2.0
-- What a list holds, and that it holds nothing twice.
use Rattle.std.specs.Prelude.{ℕ, ◌≡◌, List, [], ◌∷◌}

-- a is one of the list
pub data In {A : Type 0} (a : A) : List A → Type 0 where
  here : {l : List A} → In a (a ∷ l)
  there : {b : A} {l : List A} → In a l → In a (b ∷ l)

-- x is none of the list
abbrev pub NotIn : ℕ → List ℕ → Type 0
NotIn x [] = Unit {0}
NotIn x (y ∷ ys) = (x ≡ y → ⊥) × NotIn x ys

-- no two of the list are alike
abbrev pub Once : List ℕ → Type 0
Once [] = Unit {0}
Once (x ∷ xs) = NotIn x xs × Once xs
