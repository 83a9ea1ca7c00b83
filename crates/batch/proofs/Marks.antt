-- SPDX-License-Identifier: Apache-2.0
-- The keys at marked places: whether there are any, what a slot leaves of them, and when they are those of a test. Assumes nothing.
use Rattle.std.specs.List.{list_any}
use Prim.Native.Nat.{ℕ, zero, suc, ◌<◌}
use native.Mathlib.Omega.{arith}
use mathlib.Core.Path.{◌≡◌, refl, sym, ap, ◌∙◌}
use mathlib.Core.Bool.{Bool, true, false, not, ◌&&◌, beq}
use mathlib.Core.List.{List, [], ◌∷◌}
use lib.Dec.{ltb, eqb, leb-suc-suc}
use lib.ListN.{length, take}
use borrow.Author.Tests.{lt-ltb, le-ltb, ne_eqb, not-true, not-false}
use Rattle.basics.specs.Lists.{keep}
use Rattle.basics.proofs.Tests.{yes!, no!, is}
use Rattle.key.specs.declared.CacheKey.{CacheKey}
use Rattle.state.specs.declared.Slot.{Slot}
use Rattle.batch.specs.Batch.{holds, unfound}
use Rattle.batch.specs.Parts.{marked, asked_at, mark_at, still_sought}

-- a place is marked, or no key is
pub any_marked : (marks : List Bool) (keys : List CacheKey) → length marks ≡ length keys
    → list_any (λ m. beq m true) marks ≡ not (eqb (length (marked marks keys)) 0)
unfolding marked
any_marked [] keys e = refl
any_marked (m ∷ marks) [] e = absurd (omega arith)
any_marked (true ∷ marks) (key ∷ keys) e = rw (ne_eqb (suc (length (marked marks keys))) 0 (omega arith))
any_marked (false ∷ marks) (key ∷ keys) e = any_marked marks keys (omega arith)

-- the same of what the code asks
module _ (marks : List Bool) (keys : List CacheKey) (same : length marks ≡ length keys) {any : Bool} (asked : any ≡ list_any (λ m. beq m true) marks) where
  pub some_marked : any ≡ true → eqb (length (marked marks keys)) 0 ≡ false
  some_marked e = not-true (eqb (length (marked marks keys)) 0) (sym (any_marked marks keys same) ∙ sym asked ∙ e)

  pub none_marked : any ≡ false → eqb (length (marked marks keys)) 0 ≡ true
  none_marked e = not-false (eqb (length (marked marks keys)) 0) (sym (any_marked marks keys same) ∙ sym asked ∙ e)

-- the marks that a slot leaves are those of the keys that it does not hold
pub marked_unfound : (s : Slot) (before after : List Bool) (keys : List CacheKey) → length before ≡ length keys → length after ≡ length keys
    → ((p : ℕ) → p < length keys → mark_at after p ≡ still_sought s (mark_at before p) (asked_at keys p))
    → marked after keys ≡ unfound s (marked before keys)
unfolding marked keep
marked_unfound s [] [] keys e f h = refl
marked_unfound s (b ∷ before) [] keys e f h = absurd (omega arith)
marked_unfound s [] (a ∷ after) keys e f h = absurd (omega arith)
marked_unfound s (b ∷ before) (a ∷ after) [] e f h = absurd (omega arith)
marked_unfound s (b ∷ before) (a ∷ after) (key ∷ keys) e f h =
    let here : a ≡ (b && not (holds s key)) = h 0 (omega arith) in
    let rest : marked after keys ≡ unfound s (marked before keys) = marked_unfound s before after keys (omega arith) (omega arith) (λ p l. h (suc p) (omega arith)) in
    elim (is b) [
      | no! n ↦ rw (here, n) rest
      | yes! y ↦ elim (is (holds s key)) [ yes! q ↦ rw (here, y, q) rest | no! q ↦ rw (here, y, q) (ap (λ (l : List CacheKey). key ∷ l) rest) ]
    ]

-- marks that a test sets, below a count, are of the first keys that pass it
pub marked_kept : (test : CacheKey → Bool) (count : ℕ) (marks : List Bool) (keys : List CacheKey) → length marks ≡ length keys
    → ((p : ℕ) → p < length keys → mark_at marks p ≡ (ltb p count && test (asked_at keys p)))
    → marked marks keys ≡ keep test (take count keys)
unfolding marked keep
marked_kept test zero [] [] e h = refl
marked_kept test (suc count) [] [] e h = refl
marked_kept test count (m ∷ marks) [] e h = absurd (omega arith)
marked_kept test count [] (key ∷ keys) e h = absurd (omega arith)
marked_kept test zero (m ∷ marks) (key ∷ keys) e h =
    let here : m ≡ false = h 0 (omega arith) in
    rw here (marked_kept test zero marks keys (omega arith) (λ p l. rw (le-ltb p 0 (omega arith)) (rw (le-ltb (suc p) 0 (omega arith)) at (h (suc p) (omega arith)))))
marked_kept test (suc count) (m ∷ marks) (key ∷ keys) e h =
    let here : m ≡ test key = rw (lt-ltb 0 (suc count) (omega arith)) at (h 0 (omega arith)) in
    let rest : marked marks keys ≡ keep test (take count keys) =
    marked_kept test count marks keys (omega arith) (λ p l. rw (leb-suc-suc (suc p) count) at (h (suc p) (omega arith))) in
    elim (is (test key)) [ yes! q ↦ rw (here, q) (ap (λ (l : List CacheKey). key ∷ l) rest) | no! q ↦ rw (here, q) rest ]
