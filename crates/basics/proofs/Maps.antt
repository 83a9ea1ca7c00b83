-- SPDX-License-Identifier: Apache-2.0
-- Maps from a slot: one place anew. Assumes nothing.
use Rattle.std.proofs.Common.{if◌then◌else◌}
use Prim.Native.Nat.{ℕ}
use mathlib.Core.Path.{◌≡◌, refl, sym, fun_ext}
use lib.Dec.{eqb}
use borrow.Author.Tests.{eqb-true, eq-eqb, ne_eqb}
use Rattle.basics.proofs.Tests.{yes!, no!, is}

-- the map with a at x
abbrev pub put : {A : Type 0} → ℕ → A → (ℕ → A) → ℕ → A
put x a f s = if eqb s x then a else f s

pub put_here : {A : Type 0} (x : ℕ) (a : A) (f : ℕ → A) → put x a f x ≡ a
put_here x a f = rw (eq-eqb x x refl)

pub put_other : {A : Type 0} (x : ℕ) (a : A) (f : ℕ → A) (s : ℕ) → (s ≡ x → ⊥) → put x a f s ≡ f s
put_other x a f s n = rw (ne_eqb s x n)

pub put_same : {A : Type 0} (x : ℕ) (a : A) (f : ℕ → A) → f x ≡ a → put x a f ≡ f
put_same x a f q = fun_ext (λ s. elim (is (eqb s x)) [ yes! e ↦ rw (e, eqb-true s x e) (sym q) | no! e ↦ rw e ])

pub put_put : {A : Type 0} (x : ℕ) (a b : A) (f : ℕ → A) → put x a (put x b f) ≡ put x a f
put_put x a b f = fun_ext (λ s. elim (is (eqb s x)) [ yes! e ↦ rw e | no! e ↦ rw e ])
