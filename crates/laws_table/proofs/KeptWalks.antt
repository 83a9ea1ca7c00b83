-- SPDX-License-Identifier: Apache-2.0
-- A search of a key's chain that compares, at the end, the length kept for the chain with what it walked: where the index keeps true lengths it gives the
-- first slot of the chain that passes the test, or none, and not 10. Assumes nothing.
use Rattle.std.proofs.Common.{if◌then◌else◌}
use Prim.Native.Nat.{ℕ, suc, ◌+◌, ◌<◌}
use native.Mathlib.Omega.{arith}
use mathlib.Core.Path.{◌≡◌, refl, sym, ◌∙◌}
use mathlib.Core.Bool.{Bool, true}
use mathlib.Core.List.{List, [], ◌∷◌}
use mathlib.Core.Option.{Option, none, some}
use lib.Dec.{eqb}
use lib.ListN.{length}
use borrow.Author.Tests.{eqb-true, eqb-false, eq-eqb, ne_eqb}
use Rattle.basics.specs.Try.{Try, ok, refuse}
use Rattle.basics.specs.Refusals.{STOP}
use Rattle.basics.specs.Numbers.{NONE}
use Rattle.basics.specs.Lists.{first}
use Rattle.basics.specs.Members.{In}
use Rattle.basics.proofs.Tests.{yes!, no!, is}
use Rattle.key.specs.declared.CacheKey.{CacheKey}
use Rattle.key.specs.Bucket.{bucket_of}
use Rattle.key.proofs.Buckets.{bucket_low}
use Rattle.index.specs.declared.Index.{Index}
use Rattle.index.specs.Chain.{CHAIN, head_of, next_of, length_of, walked}
use Rattle.state.specs.Find.{ended}
use Rattle.laws_table.specs.Chains.{Chains}
use Rattle.laws_table.proofs.ChainWalks.{walk_linked}

-- the slot that passed, else the end
abbrev found_or : Option ℕ → Try (Option ℕ) → Try (Option ℕ)
found_or none r = r
found_or (some x) r = ok (some x)

-- what a search gives with n steps left and the slots xs ahead
abbrev answer : (ℕ → Bool) → ℕ → ℕ → List ℕ → Try (Option ℕ)
answer test kept n xs = found_or (first test xs) (if eqb (kept + n) (CHAIN + length xs) then ok none else refuse STOP)

-- a step keeps the comparison
same_test : (kept n m : ℕ) → eqb (kept + suc n) (CHAIN + suc m) ≡ eqb (kept + n) (CHAIN + m)
same_test kept n m =
    elim (is (eqb (kept + n) (CHAIN + m))) [
      | yes! e ↦ eq-eqb (kept + suc n) (CHAIN + suc m) (omega (arith, eqb-true (kept + n) (CHAIN + m) e)) ∙ sym e
      | no! e ↦ ne_eqb (kept + suc n) (CHAIN + suc m) (λ q. eqb-false (kept + n) (CHAIN + m) e (omega arith)) ∙ sym e
    ]

answer_ends : (test : ℕ → Bool) (kept n : ℕ) → ended kept n ≡ answer test kept n []
unfolding walked first
answer_ends test kept n = refl

answer_goes : (test : ℕ → Bool) (kept n x : ℕ) (xs : List ℕ) {rest : Try (Option ℕ)} → rest ≡ answer test kept n xs
    → (if test x then ok (some x) else rest) ≡ answer test kept (suc n) (x ∷ xs)
unfolding first
answer_goes test kept n x xs e = elim (is (test x)) [ yes! q ↦ rw q | no! q ↦ rw (q, same_test kept n (length xs)) e ]

-- a comparison that holds refuses nothing
whole : {same : Bool} (o : Option ℕ) → same ≡ true → found_or o (if same then ok none else refuse STOP) ≡ ok o
whole none e = rw e
whole (some x) e = refl

-- the search: `walk` is given by its end, and by its step at a slot of the chain
pub kept_walk : {c : ℕ} {ix : Index} {g : ℕ → Option ℕ} (r : Chains c ix g) (key : CacheKey) (walk : ℕ → ℕ → Try (Option ℕ)) (test : ℕ → Bool)
    → ((n : ℕ) → walk n NONE ≡ ended (length_of ix key) n)
    → ((n x : ℕ) → x < c → In x (r.chain (bucket_of key ix.buckets)) → walk (suc n) x ≡ (if test x then ok (some x) else walk n (next_of ix x)))
    → walk CHAIN (head_of ix key) ≡ ok (first test (r.chain (bucket_of key ix.buckets)))
kept_walk {c} {ix} r key walk test ends goes =
    let b : ℕ = bucket_of key ix.buckets in
    let hb : b < ix.buckets = bucket_low key ix.buckets r.some_buckets in
    let kept : ℕ = length_of ix key in
    let xs : List ℕ = r.chain b in
    let as_kept : eqb (kept + CHAIN) (CHAIN + length xs) ≡ true = eq-eqb (kept + CHAIN) (CHAIN + length xs) (omega (arith, r.counted b hb)) in
    walk_linked walk (answer test kept) (λ x. In x xs) ix.next c (λ n. ends n ∙ answer_ends test kept n)
    (λ n x ys hx m e. goes n x hx m ∙ answer_goes test kept n x ys e) CHAIN (head_of ix key) xs (r.linked b hb) (λ x m. m) (omega (arith, r.short b))
    ∙ whole (first test xs) as_kept
