-- SPDX-License-Identifier: Apache-2.0
-- Lists: a pigeonhole by a relation, and lists with one more at the end. Assumes nothing.
use Prim.Native.Nat.{ℕ, zero, suc, ◌<◌, ◌≤◌}
use native.Mathlib.Omega.{arith}
use mathlib.Core.Path.{◌≡◌, refl, ap, subst}
use mathlib.Core.Bool.{Bool, true, false, ◌||◌}
use mathlib.Core.List.{List, [], ◌∷◌, ◌++◌}
use lib.ListN.{length, get_or, set, take, replicate}
use Rattle.basics.specs.Lists.{down, some?}
use Rattle.basics.specs.Members.{In, here, there, NotIn, Once}
use Rattle.basics.proofs.Members.{in_none, in_case, not_in, cut, cut_shorter, in_cut, in_down, down_in, once_down, down_length}

-- ── the pigeonhole ──
-- each of xs has one of ys that is its alone
pub inject_by : (R : ℕ → ℕ → Type 0) (xs ys : List ℕ) → Once xs → ((x : ℕ) → In x xs → (y : ℕ) × In y ys × R x y) → ((x z y : ℕ) → R x y → R z y → x ≡ z) → length xs ≤ length ys
inject_by R [] ys o f one = omega arith
inject_by R (x ∷ xs) ys o f one =
    let p = f x here in
    let rest : (z : ℕ) → In z xs → (y : ℕ) × In y (cut p.0 ys) × R z y = λ z m. let q = f z (there m) in
    (q.0, in_cut q.1 (λ e. not_in o.0 m (one x z p.0 p.2 (subst (λ (y : ℕ). R z y) e q.2))), q.2) in
    omega (arith, inject_by R xs (cut p.0 ys) o.1 rest one, cut_shorter p.1)

-- the same with numbers below n and below c
pub fewer : (R : ℕ → ℕ → Type 0) (n c : ℕ) → ((x : ℕ) → x < n → (y : ℕ) × (y < c) × R x y) → ((x z y : ℕ) → R x y → R z y → x ≡ z) → n ≤ c
fewer R n c f one =
    let g : (x : ℕ) → In x (down n) → (y : ℕ) × In y (down c) × R x y = λ x m. let q = f x (down_in n x m) in (q.0, in_down c q.0 q.1, q.2) in
    omega (arith, inject_by R (down n) (down c) (once_down n) g one, down_length n, down_length c)

-- ── one more at the end ──
pub in_front_lem : {A : Type 0} {y : A} {xs : List A} (x : A) → In y xs → In y (xs ++ (x ∷ []))
in_front_lem x here = here
in_front_lem x (there m) = there (in_front_lem x m)

pub in_end : {A : Type 0} (xs : List A) (x : A) → In x (xs ++ (x ∷ []))
in_end [] x = here
in_end (y ∷ xs) x = there (in_end xs x)

pub end_case : {A P : Type 0} {y : A} (xs : List A) (x : A) → In y (xs ++ (x ∷ [])) → (In y xs → P) → (y ≡ x → P) → P
end_case [] x m a b = in_case m b (λ k. in_none k)
end_case (z ∷ xs) x m a b = in_case m (λ e. a (rw e here)) (λ k. end_case xs x k (λ n. a (there n)) b)

pub length_end : {A : Type 0} (xs : List A) (x : A) → length (xs ++ (x ∷ [])) ≡ suc (length xs)
length_end [] x = refl
length_end (y ∷ xs) x = ap {B = ℕ} suc (length_end xs x)

pub not_end : (y x : ℕ) (xs : List ℕ) → NotIn y xs → (y ≡ x → ⊥) → NotIn y (xs ++ (x ∷ []))
not_end y x [] n ne = (ne, tt)
not_end y x (z ∷ zs) n ne = (n.0, not_end y x zs n.1 ne)

pub once_end : (xs : List ℕ) (x : ℕ) → Once xs → (In x xs → ⊥) → Once (xs ++ (x ∷ []))
once_end [] x o n = (tt, tt)
once_end (y ∷ ys) x o n = (not_end y x ys o.0 (λ e. n (rw e here)), once_end ys x o.1 (λ m. n (there m)))

-- a test holds of one more
pub some_end : (p : ℕ → Bool) (xs : List ℕ) (x : ℕ) → some? p (xs ++ (x ∷ [])) ≡ (p x || some? p xs)
unfolding some?
some_end p [] x = refl
some_end p (y ∷ xs) x = rw (some_end p xs x) (swap (p y) (p x) (some? p xs))
  where
    swap : (a b c : Bool) → (a || (b || c)) ≡ (b || (a || c))
    swap true true c = refl
    swap true false c = refl
    swap false b c = refl

-- a store behind the end
pub set_end : {A : Type 0} (xs : List A) (n : ℕ) (x d : A) → set (xs ++ replicate (suc n) d) (length xs) x ≡ (xs ++ (x ∷ [])) ++ replicate n d
set_end [] n x d = refl
set_end (y ∷ xs) n x d = ap {B = List _} (λ (l : List _). y ∷ l) (set_end xs n x d)

pub take_front : {A : Type 0} (xs ys : List A) → take (length xs) (xs ++ ys) ≡ xs
take_front [] ys = refl
take_front (x ∷ xs) ys = ap {B = List _} (λ (l : List _). x ∷ l) (take_front xs ys)

-- the same thing throughout
pub all_same : {A : Type 0} (n i : ℕ) (a : A) → get_or (replicate n a) i a ≡ a
all_same zero i a = refl
all_same (suc n) zero a = refl
all_same (suc n) (suc i) a = all_same n i a
