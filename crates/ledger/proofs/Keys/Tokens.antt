-- SPDX-License-Identifier: Apache-2.0
-- Tokens: the test on them is equality, and a token is among a list or not. Assumes nothing.
use mathlib.Core.Path.{◌≡◌, refl, sym, ◌∙◌}
use mathlib.Core.Bool.{true, false, ◌&&◌, false≢true}
use mathlib.Core.List.{List}
use lib.Dec.{eqb}
use borrow.Author.Tests.{eqb-true, eq-eqb}
use Rattle.basics.specs.Lists.{some?}
use Rattle.basics.specs.Members.{In}
use Rattle.basics.proofs.Tests.{and_left, and_right}
use Rattle.key.specs.Key.{same_key}
use Rattle.key.proofs.Keys.{same_key_lem, key_eq}
use Rattle.state.specs.declared.LoadToken.{LoadToken}
use Rattle.ledger.specs.Expect.{same_token}
use Rattle.ledger.proofs.Keys.Lists.{any, nil, any_is}

token_eq : (a b : LoadToken) → same_token a b ≡ true → a ≡ b
unfolding same_token
token_eq a b e =
    let es = eqb a.slot b.slot in
    let eg = eqb a.generation b.generation in
    let ek = same_key a.key b.key in
    let eu = eqb a.access_sequence b.access_sequence in
    let three = and_left (es && eg && ek) eu e in
    let two = and_left (es && eg) ek three in
    let s : a.slot ≡ b.slot = eqb-true a.slot b.slot (and_left es eg two) in
    let g : a.generation ≡ b.generation = eqb-true a.generation b.generation (and_right es eg two) in
    let k : a.key ≡ b.key = key_eq a.key b.key (and_right (es && eg) ek three) in
    let u : a.access_sequence ≡ b.access_sequence = eqb-true a.access_sequence b.access_sequence (and_right (es && eg && ek) eu e) in
    λ i. record { slot = s i; generation = g i; key = k i; access_sequence = u i }

same_token_lem : (a : LoadToken) → same_token a a ≡ true
unfolding same_token
same_token_lem a = rw (eq-eqb a.slot a.slot refl, eq-eqb a.generation a.generation refl, same_key_lem a.key, eq-eqb a.access_sequence a.access_sequence refl)

pub data Among (k : LoadToken) (l : List LoadToken) : Type 0 where
  amid : some? (same_token k) l ≡ true → In k l → Among k l
  away : some? (same_token k) l ≡ false → (In k l → ⊥) → Among k l

pub among : (k : LoadToken) (l : List LoadToken) → Among k l
among k l =
    elim (any_is (same_token k) l) [
      | any q a i e ↦ amid q (rw (token_eq k a e) i)
      | nil q n ↦ away q (λ i. false≢true (sym (n k i) ∙ same_token_lem k))
    ]
