-- SPDX-License-Identifier: Apache-2.0
-- Lists filled place by place. Assumes nothing.
use Prim.Native.Nat.{ℕ, zero, suc, ◌+◌, ◌≤◌, ◌<◌}
use native.Mathlib.Omega.{arith}
use mathlib.Core.Path.{◌≡◌, refl, ◌∙◌}
use mathlib.Core.List.{List, [], ◌∷◌, map}
use lib.Dec.{eqb}
use lib.ListN.{length, get_or, set, take}
use borrow.Author.Tests.{eqb-true, eqb-false}
use Rattle.std.proofs.lemmas.Grind.{get_or-set_at}
use Rattle.std.proofs.lemmas.List.{get_or-set_other}
use Rattle.basics.proofs.Tests.{yes!, no!, is}

-- what holds of the places below one holds of it too, once it is set
pub set_next : {A : Type 0} (xs : List A) (i : ℕ) (y d : A) (f : ℕ → A) → i < length xs → ((p : ℕ) → p < i → get_or xs p d ≡ f p) → y ≡ f i
    → (p : ℕ) → p < i + 1 → get_or (set xs i y) p d ≡ f p
set_next xs i y d f b h e p l =
    elim (is (eqb p i)) [
      | yes! q ↦ let same : p ≡ i = eqb-true p i q in get_or-set_at xs i p y d same b ∙ rw same e
      | no! q ↦ get_or-set_other xs i p y d (eqb-false p i q) ∙ h p (omega (arith, eqb-false p i q))
    ]

-- a list that has, at each of its first places, what a map gives there
pub first_mapped : {A B : Type 0} (f : B → A) (n : ℕ) (xs : List A) (ys : List B) (d : A) (e : B) → n ≤ length xs → n ≤ length ys
    → ((p : ℕ) → p < n → get_or xs p d ≡ f (get_or ys p e)) → take n xs ≡ map f (take n ys)
first_mapped f zero xs ys d e a b h = refl
first_mapped f (suc n) [] ys d e a b h = absurd (omega arith)
first_mapped f (suc n) (x ∷ xs) [] d e a b h = absurd (omega arith)
first_mapped f (suc n) (x ∷ xs) (y ∷ ys) d e a b h =
    let here : x ≡ f y = h 0 (omega arith) in
    rw (here, first_mapped f n xs ys d e (omega arith) (omega arith) (λ p l. h (suc p) (omega arith)))
