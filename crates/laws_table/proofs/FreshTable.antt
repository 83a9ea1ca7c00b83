-- SPDX-License-Identifier: Apache-2.0
-- A fresh table of 1 to 256 slots is valid. Assumes nothing.
use Prim.Native.Nat.{ℕ, zero, suc, ◌<◌, ◌≤◌}
use native.Mathlib.Omega.{arith}
use mathlib.Core.Path.{◌≡◌, refl, sym, ap, ◌∙◌}
use mathlib.Core.Bool.{Bool, false, false≢true}
use mathlib.Core.List.{List, [], ◌∷◌}
use mathlib.Core.Option.{none}
use lib.ListN.{get_or, replicate, length-replicate}
use Rattle.basics.specs.Counts.{count}
use Rattle.basics.specs.Lists.{down}
use Rattle.key.specs.Bucket.{bucket_count}
use Rattle.index.specs.Fresh.{fresh_index}
use Rattle.eviction.specs.Entries.{fresh_heap}
use Rattle.state.specs.declared.Slot.{Slot}
use Rattle.state.specs.Slots.{vacant_slot, is_loading, is_clean, occupied, slot_at}
use Rattle.state.specs.Fresh.{empty, fresh}
use Rattle.laws_table.specs.Table.{last_of, bucket_for, last_in, bucket_in, Inv, Valid}
use Rattle.laws_table.proofs.Fresh as parts
use Rattle.laws_table.proofs.SlotKinds.{vacant_free, bucket_vacant, last_none}

vacant_at : (n x : ℕ) → get_or (replicate n vacant_slot) x vacant_slot ≡ vacant_slot
vacant_at zero x = refl
vacant_at (suc n) zero = refl
vacant_at (suc n) (suc x) = vacant_at n x

-- every slot of a fresh table is vacant
pub fresh_slot : (c x : ℕ) → slot_at (fresh c) x ≡ vacant_slot
unfolding fresh empty
fresh_slot c x = vacant_at 256 x

no_bucket : (n m x : ℕ) → bucket_in n (replicate m vacant_slot) x ≡ none
no_bucket n m x = ap (bucket_for n) (vacant_at m x) ∙ bucket_vacant n vacant_slot vacant_free

no_last : (m x : ℕ) → last_in (replicate m vacant_slot) x ≡ none
no_last m x = ap last_of (vacant_at m x) ∙ last_none vacant_slot refl

-- a test that fails of a vacant slot holds of none
none_pass : (p : Slot → Bool) → p vacant_slot ≡ false → (m : ℕ) (l : List ℕ) → count (λ (x : ℕ). p (get_or (replicate m vacant_slot) x vacant_slot)) l ≡ 0
none_pass p e m [] = refl
none_pass p e m (x ∷ l) = let q : p (get_or (replicate m vacant_slot) x vacant_slot) ≡ false = ap p (vacant_at m x) ∙ e in rw q (omega (arith, none_pass p e m l))

pub fresh_inv : (c : ℕ) → 0 < c → c ≤ 256 → Inv (fresh c)
unfolding fresh empty fresh_index fresh_heap
fresh_inv c hp hs =
    record {
      pos = hp;
      small = hs;
      size = length-replicate 256 vacant_slot;
      rule = refl;
      chains = parts.fresh_chains c hs (bucket_in (bucket_count c) (replicate 256 vacant_slot)) (no_bucket (bucket_count c) 256);
      stack = parts.fresh_stack c hs (bucket_in (bucket_count c) (replicate 256 vacant_slot)) (no_bucket (bucket_count c) 256);
      heap = parts.fresh_heap_lem c hs (last_in (replicate 256 vacant_slot)) (no_last 256);
      heaped = parts.fresh_heaped c;
      clean = sym (none_pass is_clean refl 256 (down c));
      loading = sym (none_pass is_loading refl 256 (down c));
    }

-- "It holds of every fresh table of 1 to 256 slots"
pub fresh_valid : (c : ℕ) → 0 < c → c ≤ 256 → Valid (fresh c)
fresh_valid c hp hs = (
  fresh_inv c hp hs,
  λ x y hx hy ox oy e. absurd (false≢true (sym vacant_free ∙ ap occupied (sym (fresh_slot c x)) ∙ ox)),
  λ x hx e. absurd (false≢true (ap is_clean (sym (fresh_slot c x)) ∙ e)),
)
