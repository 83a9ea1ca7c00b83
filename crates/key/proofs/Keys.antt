-- SPDX-License-Identifier: Apache-2.0
-- The test on keys is equality. Assumes nothing.
use Rattle.std.proofs.Common.{◌≡◌, Bool, true, false, ◌&&◌, eqb, refl, eq-eqb, eqb-true}
use Rattle.basics.proofs.Tests.{and_left, and_right}
use Rattle.key.specs.declared.CacheKey.{CacheKey}
use Rattle.key.specs.Key.{same_key}

pub same_key_lem : (k : CacheKey) → same_key k k ≡ true
unfolding same_key
same_key_lem k = rw (eq-eqb k.file k.file refl, eq-eqb k.kind k.kind refl, eq-eqb k.index k.index refl)

pub key_eq : (a b : CacheKey) → same_key a b ≡ true → a ≡ b
unfolding same_key
key_eq a b e =
    let two = and_left (eqb a.file b.file && eqb a.kind b.kind) (eqb a.index b.index) e in
    let f : a.file ≡ b.file = eqb-true a.file b.file (and_left (eqb a.file b.file) (eqb a.kind b.kind) two) in
    let k : a.kind ≡ b.kind = eqb-true a.kind b.kind (and_right (eqb a.file b.file) (eqb a.kind b.kind) two) in
    let j : a.index ≡ b.index = eqb-true a.index b.index (and_right (eqb a.file b.file && eqb a.kind b.kind) (eqb a.index b.index) e) in
    λ i. record { file = f i; kind = k i; index = j i }

-- three tests grouped from the right, as the derived `==` has them, and from the left, as the rule
pub all_three : (p q r : Bool) → (p && (q && r)) ≡ (p && q && r)
all_three true q r = refl
all_three false q r = refl
