-- SPDX-License-Identifier: Apache-2.0
-- What the kind of a slot tells: its bucket, its last use, and which of loading, clean and vacant it is. Assumes nothing.
use Prim.Native.Nat.{ℕ, ◌+◌, ◌<◌}
use native.Mathlib.Omega.{arith}
use mathlib.Core.Path.{◌≡◌, refl, sym, ◌∙◌, fun_ext}
use mathlib.Core.Bool.{true, false, not, false≢true}
use mathlib.Core.List.{List}
use mathlib.Core.Option.{none, some}
use lib.Dec.{eqb}
use lib.ListN.{length, get_or, set}
use lib.Seq.{get_or-set_same, get_or-set_other}
use borrow.Author.Tests.{eqb-true, eqb-false, ne_eqb}
use Rattle.basics.specs.Counts.{bit}
use Rattle.basics.proofs.Tests.{yes!, no!, is, some_same, none_some}
use Rattle.basics.proofs.Maps.{put}
use Rattle.key.specs.Bucket.{bucket_of}
use Rattle.state.specs.declared.Slot.{Slot}
use Rattle.state.specs.Slots.{vacant_slot, is_loading, is_clean, occupied}
use Rattle.laws_table.specs.Table.{last_of, bucket_for}

-- ── the kinds ──
pub vacant_free : occupied vacant_slot ≡ false
unfolding occupied
vacant_free = refl

pub clean_occupied : (s : Slot) → is_clean s ≡ true → occupied s ≡ true
unfolding occupied
clean_occupied s e = elim (is (is_loading s)) [ yes! q ↦ rw q | no! q ↦ rw (q, e) ]

pub loading_occupied : (s : Slot) → is_loading s ≡ true → occupied s ≡ true
unfolding occupied
loading_occupied s e = rw e

pub clean_not_loading : (s : Slot) → is_clean s ≡ true → is_loading s ≡ false
clean_not_loading s e = ne_eqb s.kind 1 (let q = eqb-true s.kind 2 e in omega arith)

pub loading_not_clean : (s : Slot) → is_loading s ≡ true → is_clean s ≡ false
loading_not_clean s e = ne_eqb s.kind 2 (let q = eqb-true s.kind 1 e in omega arith)

pub vacant_neither : (s : Slot) → occupied s ≡ false → (is_loading s ≡ false) × (is_clean s ≡ false)
unfolding occupied
vacant_neither s e = elim (is (is_loading s)) [ yes! q ↦ absurd (false≢true (sym e ∙ rw q refl)) | no! q ↦ (q, rw q at e) ]

pub occupied_loading : (s : Slot) → occupied s ≡ true → is_clean s ≡ false → is_loading s ≡ true
unfolding occupied
occupied_loading s h e = elim (is (is_loading s)) [ yes! q ↦ q | no! q ↦ absurd (false≢true (sym e ∙ (rw q at h))) ]

-- a slot is just one of vacant, clean and loading
pub one_kind : (s : Slot) → bit (not (occupied s)) + bit (is_clean s) + bit (is_loading s) ≡ 1
unfolding occupied
one_kind s =
    elim (is (is_loading s)) [
      | yes! q ↦ rw (q, loading_not_clean s q)
      | no! q ↦ elim (is (is_clean s)) [ yes! e ↦ rw (q, e) | no! e ↦ rw (q, e) ]
    ]

-- ── the bucket and the last use ──
pub bucket_occupied : (n : ℕ) (s : Slot) → occupied s ≡ true → bucket_for n s ≡ some (bucket_of s.key n)
unfolding bucket_for
bucket_occupied n s e = rw e

pub bucket_vacant : (n : ℕ) (s : Slot) → occupied s ≡ false → bucket_for n s ≡ none
unfolding bucket_for
bucket_vacant n s e = rw e

pub bucket_none : (n : ℕ) (s : Slot) → bucket_for n s ≡ none → occupied s ≡ false
unfolding bucket_for
bucket_none n s e = elim (is (occupied s)) [ yes! q ↦ absurd (none_some (sym (rw q at e))) | no! q ↦ q ]

pub bucket_some : (n : ℕ) (s : Slot) (b : ℕ) → bucket_for n s ≡ some b → (occupied s ≡ true) × (bucket_of s.key n ≡ b)
unfolding bucket_for
bucket_some n s b e = elim (is (occupied s)) [ yes! q ↦ (q, some_same (rw q at e)) | no! q ↦ absurd (none_some (rw q at e)) ]

pub last_clean : (s : Slot) → is_clean s ≡ true → last_of s ≡ some s.last_access
unfolding last_of
last_clean s e = rw e

pub last_none : (s : Slot) → is_clean s ≡ false → last_of s ≡ none
unfolding last_of
last_none s e = rw e

pub last_some : (s : Slot) (u : ℕ) → last_of s ≡ some u → (is_clean s ≡ true) × (s.last_access ≡ u)
unfolding last_of
last_some s u e = elim (is (is_clean s)) [ yes! q ↦ (q, some_same (rw q at e)) | no! q ↦ absurd (none_some (rw q at e)) ]

-- one slot anew: what is read of the slots is anew there
pub slot_set : {A : Type 0} (f : Slot → A) (ss : List Slot) (x : ℕ) (s : Slot) → x < length ss → (λ (n : ℕ). f (get_or (set ss x s) n vacant_slot)) ≡ put x (f s) (λ n. f (get_or ss n vacant_slot))
slot_set f ss x s hx =
    fun_ext (λ n. elim (is (eqb n x)) [
      | yes! e ↦ rw (e, eqb-true n x e, get_or-set_same ss x s vacant_slot hx)
      | no! e ↦ rw (e, get_or-set_other ss x n s vacant_slot (eqb-false n x e))
    ])
