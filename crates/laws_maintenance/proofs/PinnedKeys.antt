-- SPDX-License-Identifier: Apache-2.0
-- The walk that restores the pinned keys: what each of its steps keeps holds at its end, or a step was refused; and how many keys it has restored
-- so far. Assumes nothing.
use Prim.Native.Nat.{ℕ, zero, suc, ◌+◌, ◌<◌, ◌≤◌}
use native.Mathlib.Omega.{arith}
use mathlib.Core.Path.{◌≡◌, refl, subst}
use mathlib.Core.Bool.{true, false}
use mathlib.Core.List.{List}
use mathlib.Core.Option.{Option, none, some}
use lib.ListN.{length, drop}
use Rattle.basics.specs.Try.{Try, ok}
use Rattle.basics.proofs.Tests.{yes!, no!, is}
use Rattle.key.specs.declared.CacheKey.{CacheKey}
use Rattle.index.specs.Chain.{CHAIN}
use Rattle.eviction.specs.Victim.{unpinned}
use Rattle.state.specs.declared.State.{State}
use Rattle.state.specs.Slots.{slot_at}
use Rattle.maintenance_restore.specs.Pins.{pin_count}
use Rattle.maintenance_restore.specs.Restore.{restore, restore_pinned}
use Rattle.laws_table.specs.Table.{Inv}
use Rattle.laws_table.proofs.TableParts.{slots_sum}
use Rattle.laws_table.proofs.StepReserve.{chain_of}
use Rattle.laws_maintenance.proofs.PinBytes.{pin_skip, pin_here}
use Rattle.laws_maintenance.proofs.ChainRoom.{chain_fits}

-- a table of which P holds, or none, and F
pub data Restoring (F : Type 0) (P : State → Type 0) (r : Try (Option State)) : Type 0 where
  none! : F → r ≡ ok none → Restoring F P r
  some! : (n : State) → P n → r ≡ ok (some n) → Restoring F P r

-- P k holds where the slots below k are done; c slots in all
module _ (t : State) (pins : List ℕ) (c : ℕ) (F : Type 0) (P : ℕ → State → Type 0)
    (skips : (k : ℕ) (n : State) → k < c → unpinned pins k ≡ true → P k n → P (k + 1) n)
    (takes : (k : ℕ) (n : State) → k < c → unpinned pins k ≡ false → P k n → Restoring F (P (k + 1)) (restore n (slot_at t k).key (slot_at t k).last_access)) where
  pinned_step : (left k : ℕ) (n : State) → k < c → P k n → ((u : State) → P (k + 1) u → Restoring F (P c) (restore_pinned left t pins (k + 1) u)) → Restoring F (P c) (restore_pinned (suc left) t pins k n)
  unfolding restore_pinned
  pinned_step left k n hk p rest =
      elim (is (unpinned pins k)) [
        | yes! e ↦ rw e (rest n (skips k n hk e p))
        | no! e ↦ rw e (elim (takes k n hk e p) [ none! f z ↦ rw z (none! f refl) | some! u q z ↦ rw z (rest u q) ])
      ]

  pub pinned_from : (left k : ℕ) (n : State) → k + left ≡ c → P k n → Restoring F (P c) (restore_pinned left t pins k n)
  unfolding restore_pinned
  pinned_from zero k n e p = some! n (subst (λ (j : ℕ). P j n) (omega arith) p) refl
  pinned_from (suc left) k n e p = pinned_step left k n (omega arith) p (λ u q. pinned_from left (k + 1) u (omega arith) q)

-- ── how many so far ──
-- the pinned keys before k are in n, and all have a slot
pub record Counted (pins : List ℕ) (k : ℕ) (n : State) : Type 0 where
  pub inv : Inv n
  pub quiet : n.loading ≡ 0
  pub count : n.clean + pin_count (drop k pins) ≡ pin_count pins
  pub fits : pin_count pins ≤ n.capacity

module _ {pins : List ℕ} {k : ℕ} {n : State} (w : Counted pins k n) (hk : k < length pins) where
  pub counted_skip : unpinned pins k ≡ true → Counted pins (k + 1) n
  counted_skip e = record { inv = w.inv; quiet = w.quiet; count = omega (arith, w.count, pin_skip pins k hk e); fits = w.fits }

  module _ (e : unpinned pins k ≡ false) where
    pub counted_more : {u : State} → Inv u → u.loading ≡ 0 → u.clean ≡ n.clean + 1 → u.capacity ≡ n.capacity → Counted pins (k + 1) u
    counted_more v q one same = record { inv = v; quiet = q; count = omega (arith, w.count, pin_here pins k hk e); fits = omega (arith, w.fits) }

    -- there is a slot for one more
    pub counted_slot : n.index.free_len ≡ 0 → ⊥
    counted_slot z = omega (arith, w.count, w.fits, w.quiet, slots_sum w.inv, pin_here pins k hk e)

    -- a full chain takes 65 pins
    pub counted_many : (key : CacheKey) → CHAIN ≤ length (chain_of n w.inv key) → 65 ≤ pin_count pins
    counted_many key h = omega (arith, w.count, chain_fits n w.inv w.quiet key, pin_here pins k hk e)
