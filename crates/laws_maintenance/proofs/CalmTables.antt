-- SPDX-License-Identifier: Apache-2.0
-- Tables without a loading slot: an occupied slot is clean, `peek_clean` says whether the table has a key, and a fresh table has none.
-- Assumes nothing.
use Prim.Native.Nat.{ℕ, ◌<◌, ◌≤◌}
use native.Mathlib.Omega.{arith}
use mathlib.Core.Path.{◌≡◌, refl, sym, ap, ◌∙◌}
use mathlib.Core.Bool.{true, false, false≢true}
use mathlib.Core.Option.{Option, none, some}
use Rattle.basics.specs.Try.{Try, ok}
use Rattle.basics.proofs.Tests.{yes!, no!, is}
use Rattle.key.specs.declared.CacheKey.{CacheKey}
use Rattle.state.specs.declared.State.{State}
use Rattle.state.specs.Slots.{slot_at, is_loading, is_clean, occupied}
use Rattle.state.specs.Fresh.{empty, fresh}
use Rattle.state.specs.Reads.{peek_clean}
use Rattle.laws_table.specs.Table.{Inv, Absent}
use Rattle.laws_table.proofs.SlotKinds.{vacant_free, clean_occupied, occupied_loading}
use Rattle.laws_table.proofs.StepParts.{loading_pos}
use Rattle.laws_table.proofs.FreshTable.{fresh_slot, fresh_inv}
use Rattle.laws_table.proofs.TableReads.{peeks!, lacks!, peek_law}
use Rattle.laws_maintenance.specs.Calm.{Calm, Present}

pub none_loads : (t : State) → Inv t → t.loading ≡ 0 → (x : ℕ) → x < t.capacity → is_loading (slot_at t x) ≡ false
none_loads t v q x hx = elim (is (is_loading (slot_at t x))) [ yes! e ↦ absurd (omega (arith, loading_pos t v x hx e)) | no! e ↦ e ]

pub calm_clean : (t : State) → Inv t → t.loading ≡ 0 → (x : ℕ) → x < t.capacity → occupied (slot_at t x) ≡ true → is_clean (slot_at t x) ≡ true
calm_clean t v q x hx o =
    elim (is (is_clean (slot_at t x))) [ yes! e ↦ e | no! e ↦ absurd (false≢true (sym (none_loads t v q x hx) ∙ occupied_loading (slot_at t x) o e)) ]

-- two clean slots with one key are one
pub one_clean : {t : State} → Calm t → (x y : ℕ) → x < t.capacity → y < t.capacity → is_clean (slot_at t x) ≡ true → is_clean (slot_at t y) ≡ true → (slot_at t x).key ≡ (slot_at t y).key → x ≡ y
one_clean {t} w x y hx hy cx cy e = w.distinct x y hx hy (clean_occupied (slot_at t x) cx) (clean_occupied (slot_at t y) cy) e

pub not_present : {t : State} {k : CacheKey} → Absent t k → Present t k → ⊥
not_present {t} a p = a p.slot p.low (clean_occupied (slot_at t p.slot) p.clean) p.key

-- ── peek_clean ──
pub data Peeked (t : State) (k : CacheKey) (r : Try (Option ℕ)) : Type 0 where
  there! : (p : Present t k) → r ≡ ok (some p.slot) → Peeked t k r
  absent! : Absent t k → r ≡ ok none → Peeked t k r

pub peeked : (t : State) → Calm t → (k : CacheKey) → Peeked t k (peek_clean t k)
peeked t w k =
    elim (peek_law t w.inv k) [
      | peeks! x hx c e q ↦ there! (record { slot = x; low = hx; clean = c; key = e }) q
      | lacks! n q ↦ absent! (λ x hx o e. n x hx (calm_clean t w.inv w.quiet x hx o) e) q
    ]

-- ── a fresh table ──
pub fresh_free : (c x : ℕ) → occupied (slot_at (fresh c) x) ≡ false
fresh_free c x = ap occupied (fresh_slot c x) ∙ vacant_free

pub fresh_unclean : (c x : ℕ) → is_clean (slot_at (fresh c) x) ≡ false
fresh_unclean c x = ap is_clean (fresh_slot c x)

pub fresh_absent : (c : ℕ) (k : CacheKey) → Absent (fresh c) k
fresh_absent c k x hx o e = false≢true (sym (fresh_free c x) ∙ o)

pub fresh_capacity : (c : ℕ) → (fresh c).capacity ≡ c
unfolding fresh empty
fresh_capacity c = refl

pub fresh_none : (c : ℕ) → (fresh c).clean ≡ 0
unfolding fresh empty
fresh_none c = refl

fresh_quiet : (c : ℕ) → (fresh c).loading ≡ 0
unfolding fresh empty
fresh_quiet c = refl

pub fresh_calm : (c : ℕ) → 0 < c → c ≤ 256 → Calm (fresh c)
fresh_calm c pos small = record { inv = fresh_inv c pos small; quiet = fresh_quiet c; distinct = λ x y hx hy a b e. absurd (false≢true (sym (fresh_free c x) ∙ a)) }
