-- SPDX-License-Identifier: Apache-2.0
-- Tests: a Bool with what it is known to be, the fact behind a test, and what a rule that answered `ok` went through.
-- Assumes nothing.
use Prim.Native.Nat.{ℕ, zero, suc, ◌+◌, ◌-◌, ◌≤◌, ◌<◌}
use mathlib.Core.Path.{◌≡◌, refl, sym, ◌∙◌}
use mathlib.Core.Bool.{Bool, true, false, not, ◌&&◌, false≢true}
use mathlib.Core.Option.{Option, none, some}
use native.Mathlib.Omega.{arith}
use lib.Dec.{ltb}
use borrow.Author.Tests.{lt-ltb, le-ltb, le-leb, lt-leb, eq-eqb, ne_eqb, not-true, not-false}
use Rattle.basics.specs.Try.{Try, ok, refuse, ◌>>=◌, ◌>>◌, need}

-- a Bool with what it is known to be
pub data Is (b : Bool) : Type 0 where
  yes! : b ≡ true → Is b
  no! : b ≡ false → Is b

pub is : (b : Bool) → Is b
is true = yes! refl
is false = no! refl

pub some_same : {A : Type 0} {a b : A} → ◌≡◌ {A = Option A} (some a) (some b) → a ≡ b
some_same e = cc

pub none_some : {A : Type 0} {a : A} → ◌≡◌ {A = Option A} none (some a) → ⊥
none_some e = let w : ◌≡◌ {A = ℕ} 0 1 = cc in omega arith

-- both halves of a test
pub and_left : (a b : Bool) → a && b ≡ true → a ≡ true
and_left true b e = refl
and_left false b e = e

pub and_right : (a b : Bool) → a && b ≡ true → b ≡ true
and_right true b e = e
and_right false b e = absurd (false≢true e)

-- a number that is tested against 0
pub no_ltb : (n : ℕ) → n ≡ 0 → ltb 0 n ≡ false
no_ltb n e = le-ltb 0 n (omega arith)

pub some_ltb : (n : ℕ) → (n ≡ 0 → ⊥) → ltb 0 n ≡ true
some_ltb zero ne = absurd (ne refl)
some_ltb (suc n) ne = lt-ltb 0 (suc n) (omega arith)

-- what a branch knows, as the tests that a rule makes: `search tests` closes most returns
pub ruleset tests = (lt-ltb, le-ltb, le-leb, lt-leb, eq-eqb, ne_eqb, no_ltb, some_ltb)

-- a flag that a call handed back, tested by `!` or as it is
pub yes : {r s : Bool} → r ≡ s → not r ≡ false → s ≡ true
yes {r} e n = sym e ∙ not-false r n

pub no : {r s : Bool} → r ≡ s → not r ≡ true → s ≡ false
no {r} e n = sym e ∙ not-true r n

pub flag : {r s b : Bool} → r ≡ s → r ≡ b → s ≡ b
flag e n = sym e ∙ n

-- the steps left of a loop that counts up to c: at one of them, and behind the last
pub left_suc : (c i : ℕ) → i < c → c - i ≡ suc (c - (i + 1))
left_suc c i l = omega arith

pub left_none : (c i : ℕ) → c ≤ i → c - i ≡ 0
left_none c i l = omega arith

-- what is refused gave no value
pub refuse_ok : {A : Type 0} {n : ℕ} {a : A} → ◌≡◌ {A = Try A} (refuse n) (ok a) → ⊥
refuse_ok e = let w : ◌≡◌ {A = ℕ} 0 1 = cc in omega arith

-- a need that was met, and a step that went on
pub met : {A : Type 0} (b : Bool) (n : ℕ) (r : Try A) (a : A) → (need b n >> r) ≡ ok a → (b ≡ true) × (r ≡ ok a)
met true n r a e = (refl, e)
met false n r a e = absurd (refuse_ok e)

pub went : {A B : Type 0} (x : Try A) (f : A → Try B) (b : B) → (x >>= f) ≡ ok b → (a : A) × (x ≡ ok a) × (f a ≡ ok b)
went (ok a) f b e = (a, refl, e)
went (refuse n) f b e = absurd (refuse_ok e)

pub ok_same : {A : Type 0} {a b : A} → ◌≡◌ {A = Try A} (ok a) (ok b) → a ≡ b
ok_same e = cc

-- two ways on that agree at what a step gave
pub bind_same : {A B : Type 0} (x : Try A) (f g : A → Try B) → ((a : A) → x ≡ ok a → f a ≡ g a) → (x >>= f) ≡ (x >>= g)
bind_same (ok a) f g h = h a refl
bind_same (refuse n) f g h = refl
