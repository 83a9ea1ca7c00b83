-- SPDX-License-Identifier: Apache-2.0
-- A step made for each slot in turn that keeps what it is to keep, and does not refuse, is not refused as a whole. Assumes nothing.
use Prim.Native.Nat.{ℕ, zero, suc, ◌+◌, ◌<◌}
use native.Mathlib.Omega.{arith}
use mathlib.Core.Path.{◌≡◌, refl, subst}
use Rattle.basics.specs.Try.{Try, ok}
use Rattle.basics.specs.Lists.{each_slot}

-- the answer is a value of which Q holds
pub record Reaches {A : Type 0} (Q : A → Type 0) (r : Try A) : Type 0 where
  pub value : A
  pub gives : r ≡ ok value
  pub good : Q value

-- P k holds where the slots below k are done; c slots in all
module _ {A : Type 0} (step : ℕ → A → Try A) (P : ℕ → A → Type 0) (c : ℕ) (keeps : (k : ℕ) (a : A) → k < c → P k a → Reaches (P (k + 1)) (step k a)) where
  pub each_from : (left k : ℕ) (a : A) → k + left ≡ c → P k a → Reaches (P c) (each_slot step left k a)
  unfolding each_slot
  each_from zero k a e p = record { value = a; gives = refl; good = subst (λ (j : ℕ). P j a) (omega arith) p }
  each_from (suc left) k a e p = let r = keeps k a (omega arith) p in rw r.gives (each_from left (k + 1) r.value (omega arith) r.good)

  pub each_slot_lem : (a : A) → P 0 a → Reaches (P c) (each_slot step c 0 a)
  each_slot_lem a p = each_from c 0 a (omega arith) p
