-- SPDX-License-Identifier: Apache-2.0
-- `release` and `take_vacant` are push and pop of the free stack, `vacant` is its top, and none is refused where it should not be.
-- Assumes nothing.
use Prim.Native.Nat.{ℕ, suc, ◌+◌, ◌-◌, ◌<◌, ◌≤◌}
use native.Mathlib.Omega.{arith}
use native.Mathlib.Numerals.{add-one}
use mathlib.Core.Path.{◌≡◌, refl, sym, ap, ◌∙◌}
use mathlib.Core.List.{List, ◌∷◌, map}
use mathlib.Core.Option.{Option, none, some}
use lib.Dec.{eqb}
use lib.ListN.{length, get_or, set, length-set}
use lib.Seq.{get_or-set_same, get_or-set_other}
use borrow.Author.Tests.{eqb-true, eqb-false, lt-ltb, eq-eqb, ne_eqb}
use Rattle.basics.specs.Try.{ok}
use Rattle.basics.specs.Lists.{down}
use Rattle.basics.specs.Members.{In, here, there, Once}
use Rattle.basics.proofs.Tests.{yes!, no!, is, none_some}
use Rattle.basics.proofs.Members.{in_case, not_in, not_in_list, map_agree, down_in}
use Rattle.basics.proofs.Maps.{put, put_here, put_other}
use Rattle.index.specs.declared.Index.{Index}
use Rattle.index.specs.Free.{with_free, top_vacant, take_vacant, release_index}
use Rattle.laws_table.specs.Chains.{Chains}
use Rattle.laws_table.specs.Stack.{stack_of, Stack}
use Rattle.laws_table.proofs.ChainWalks.{index_sized}

-- the top slot, where there is one
abbrev pub top_of : Index → ℕ
top_of ix = get_or ix.free (ix.free_len - 1) 0

-- the index with x on the stack, and without the top
abbrev pub pushed : Index → ℕ → Index
pushed ix x = with_free ix (set ix.free ix.free_len x) (ix.free_len + 1)

abbrev pub popped : Index → Index
popped ix = with_free ix (set ix.free (ix.free_len - 1) 0) (ix.free_len - 1)

-- a store at or past the end does not change the list
listed_set : (free : List ℕ) (n i v : ℕ) → n ≤ i → map (λ (j : ℕ). get_or (set free i v) j 0) (down n) ≡ map (λ (j : ℕ). get_or free j 0) (down n)
listed_set free n i v h =
    map_agree (λ (j : ℕ). get_or (set free i v) j 0) (λ (j : ℕ). get_or free j 0) (down n) (λ j m. let lt = down_in n j m in get_or-set_other free i j v 0 (omega arith))

listed_suc : (f : ℕ → ℕ) (n : ℕ) → map f (down (suc n)) ≡ f n ∷ map f (down n)
unfolding down
listed_suc f n = refl

pub stack_pushed : (ix : Index) (x : ℕ) → ix.free_len < length ix.free → stack_of (pushed ix x) ≡ x ∷ stack_of ix
stack_pushed ix x h =
    rw (add-one ix.free_len, listed_suc (λ (j : ℕ). get_or (set ix.free ix.free_len x) j 0) ix.free_len, get_or-set_same ix.free ix.free_len x 0 h, listed_set ix.free ix.free_len ix.free_len x (omega arith))

pub stack_popped : (ix : Index) → 0 < ix.free_len → stack_of ix ≡ top_of ix ∷ stack_of (popped ix)
stack_popped ix h =
    let n : ℕ = ix.free_len - 1 in
    let e : ix.free_len ≡ suc n = omega arith in
    ap (λ (k : ℕ). map (λ (j : ℕ). get_or ix.free j 0) (down k)) e ∙ listed_suc (λ (j : ℕ). get_or ix.free j 0) n
    ∙ ap {B = List ℕ} (λ (l : List ℕ). top_of ix ∷ l) (sym (listed_set ix.free n n 0 (omega arith)))

-- the chains do not look at the stack
abbrev pub chains_stack : {c : ℕ} {ix : Index} {g : ℕ → Option ℕ} (free : List ℕ) (n : ℕ) → Chains c ix g → Chains c (with_free ix free n) g
chains_stack free n r =
    record {
      size_heads = r.size_heads;
      size_lengths = r.size_lengths;
      size_next = r.size_next;
      small = r.small;
      some_buckets = r.some_buckets;
      few_buckets = r.few_buckets;
      chain = r.chain;
      linked = r.linked;
      once = r.once;
      short = r.short;
      counted = r.counted;
      member = r.member;
      complete = r.complete;
      loose = r.loose;
    }

-- ── the steps are not refused ──
module _ (c : ℕ) (ix : Index) (g : ℕ → Option ℕ) (r : Chains c ix g) where
  -- a slot of no chain is put on a stack that has not all
  pub release_index_lem : (x : ℕ) → x < c → g x ≡ none → ix.free_len < c → release_index c ix x ≡ ok (pushed ix x)
  unfolding release_index
  release_index_lem x hx gx hv = rw (index_sized c ix g r (omega arith), lt-ltb x c hx, r.loose x hx gx, ne_eqb ix.free_len c (omega arith))

  pub take_vacant_lem : (x : ℕ) → ix.free_len ≤ c → 0 < ix.free_len → top_of ix ≡ x → take_vacant c ix x ≡ ok (popped ix)
  unfolding take_vacant
  take_vacant_lem x hf hv e = rw (index_sized c ix g r hf, lt-ltb 0 ix.free_len hv, eq-eqb (top_of ix) x e)

  pub vacant_top : ix.free_len ≤ c → 0 < ix.free_len → top_vacant c ix ≡ ok (some (top_of ix))
  unfolding top_vacant
  vacant_top hf hv = rw (index_sized c ix g r hf, ne_eqb ix.free_len 0 (omega arith))

  pub vacant_none : ix.free_len ≡ 0 → top_vacant c ix ≡ ok none
  unfolding top_vacant
  vacant_none e = rw (index_sized c ix g r (omega arith), eq-eqb ix.free_len 0 e)

-- ── the invariant is kept ──
pub stack_push : {c : ℕ} {ix : Index} {g : ℕ → Option ℕ} (x : ℕ) → c ≤ 256 → ix.free_len < c → x < c → (g x ≡ none → ⊥) → Stack c ix g → Stack c (pushed ix x) (put x none g)
stack_push {c} {ix} {g} x hc hv hx gx r =
    let list : stack_of (pushed ix x) ≡ x ∷ stack_of ix = stack_pushed ix x (omega (arith, r.size)) in
    let off : (y : ℕ) → In y (stack_of ix) → y ≡ x → ⊥ = λ y m e. gx (ap g (sym e) ∙ r.empty y m) in
    record {
      size = rw length-set r.size;
      fits = omega arith;
      once = rw list (not_in_list x (stack_of ix) (λ m. off x m refl), r.once);
      low = λ y m. in_case (rw list at m) (λ e. rw e hx) (λ k. r.low y k);
      empty = λ y m. in_case (rw list at m) (λ e. rw e (put_here x none g)) (λ k. put_other x none g y (off y k) ∙ r.empty y k);
      complete = λ y hy e. rw list (elim (is (eqb y x)) [ yes! q ↦ rw (eqb-true y x q) here | no! q ↦ there (r.complete y hy (rw q at e)) ]);
    }

-- the top goes to a chain
pub stack_pop : {c : ℕ} {ix : Index} {g : ℕ → Option ℕ} (b : ℕ) → 0 < ix.free_len → Stack c ix g → Stack c (popped ix) (put (top_of ix) (some b) g)
stack_pop {c} {ix} {g} b hv r =
    let list : stack_of ix ≡ top_of ix ∷ stack_of (popped ix) = stack_popped ix hv in
    let old : (y : ℕ) → In y (stack_of (popped ix)) → In y (stack_of ix) = λ y m. rw list (there m) in
    let o : Once (top_of ix ∷ stack_of (popped ix)) = rw list at r.once in
    record {
      size = rw length-set r.size;
      fits = omega (arith, r.fits);
      once = o.1;
      low = λ y m. r.low y (old y m);
      empty = λ y m. put_other (top_of ix) (some b) g y (λ e. not_in o.0 m (sym e)) ∙ r.empty y (old y m);
      complete = λ y hy e. elim (is (eqb y (top_of ix))) [
        | yes! q ↦ absurd (none_some (sym (rw q at e)))
        | no! q ↦ let m : In y (top_of ix ∷ stack_of (popped ix)) = rw list at (r.complete y hy (rw q at e)) in in_case m (λ z. absurd (eqb-false y (top_of ix) q z)) (λ k. k)
      ];
    }

-- a slot of a chain goes to another
pub stack_held : {c : ℕ} {ix : Index} {g : ℕ → Option ℕ} (x b : ℕ) → (g x ≡ none → ⊥) → Stack c ix g → Stack c ix (put x (some b) g)
stack_held {c} {ix} {g} x b n r =
    record {
      size = r.size;
      fits = r.fits;
      once = r.once;
      low = r.low;
      empty = λ y m. put_other x (some b) g y (λ e. n (ap g (sym e) ∙ r.empty y m)) ∙ r.empty y m;
      complete = λ y hy e. elim (is (eqb y x)) [ yes! q ↦ absurd (none_some (sym (rw q at e))) | no! q ↦ r.complete y hy (rw q at e) ];
    }

-- the stack does not look at the chains
pub stack_same : {c : ℕ} {ix iy : Index} {g : ℕ → Option ℕ} → iy.free ≡ ix.free → iy.free_len ≡ ix.free_len → Stack c ix g → Stack c iy g
stack_same {ix = ix} {iy = iy} f v r =
    let list : stack_of iy ≡ stack_of ix = rw (f, v) in
    record {
      size = rw f r.size;
      fits = rw v r.fits;
      once = rw list r.once;
      low = λ y m. r.low y (rw list at m);
      empty = λ y m. r.empty y (rw list at m);
      complete = λ y hy e. rw list (r.complete y hy e);
    }
