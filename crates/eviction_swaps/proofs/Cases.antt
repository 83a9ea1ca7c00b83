-- SPDX-License-Identifier: Apache-2.0
-- What the proofs of the sifts share: no entry is older than itself, and a sift one step on. Assumes nothing.
use Rattle.std.proofs.Common.{if◌then◌else◌}
use Prim.Native.Nat.{ℕ, zero, suc, ◌+◌, ◌-◌, ◌≤◌, ◌<◌}
use mathlib.Core.Path.{◌≡◌, refl}
use mathlib.Core.Bool.{false}
use native.Mathlib.Omega.{arith}
use lib.Dec.{eqb}
use borrow.Author.Tests.{le-ltb}
use Rattle.basics.specs.Try.{ok, ◌>>=◌}
use Rattle.basics.proofs.Tests.{left_suc}
use Rattle.eviction.specs.declared.Entry.{Entry}
use Rattle.eviction.specs.declared.EvictionHeap.{EvictionHeap}
use Rattle.eviction.specs.Entries.{older}
use Rattle.eviction.specs.Sift.{swapped, sift_from}

pub older_self : (e : Entry) → older e e ≡ false
unfolding older
older_self e = rw (le-ltb e.last_access e.last_access (omega arith), le-ltb e.slot e.slot (omega arith))

-- a sift at its end, and one step on
pub sift_end : (next : EvictionHeap → ℕ → ℕ) (n c : ℕ) (h : EvictionHeap) (p : ℕ) → n ≤ 0 → sift_from next n c h p ≡ ok h
unfolding sift_from
sift_end next zero c h p l = refl
sift_end next (suc n) c h p l = absurd (omega arith)

pub sift_step : (next : EvictionHeap → ℕ → ℕ) (i c : ℕ) (h : EvictionHeap) (p : ℕ) → i < 256
    → sift_from next (256 - i) c h p
    ≡ (if eqb (next h p) p then ok h else (swapped c h p (next h p) >>= λ k. sift_from next (256 - (i + 1)) c k (next h p)))
unfolding sift_from
sift_step next i c h p l = rw (left_suc 256 i l)
