-- SPDX-License-Identifier: Apache-2.0
-- A table stays valid where one slot is anew, if no other slot holds the new key and its last use is no later than the last number.
-- Assumes nothing.
use Prim.Native.Nat.{ℕ, ◌+◌, ◌<◌, ◌≤◌}
use native.Mathlib.Omega.{arith}
use mathlib.Core.Path.{◌≡◌, refl, sym, ◌∙◌}
use mathlib.Core.Bool.{true, false≢true}
use mathlib.Core.List.{List}
use lib.Dec.{eqb}
use lib.ListN.{length, get_or, set}
use lib.Seq.{get_or-set_same, get_or-set_other}
use borrow.Author.Tests.{eqb-true, eqb-false}
use Rattle.basics.proofs.Tests.{yes!, no!, is}
use Rattle.key.specs.declared.CacheKey.{CacheKey}
use Rattle.state.specs.declared.Slot.{Slot}
use Rattle.state.specs.declared.State.{State}
use Rattle.state.specs.Slots.{slot_at, vacant_slot, loading_slot, clean_slot, is_clean, occupied}
use Rattle.laws_table.specs.Table.{Inv, Distinct, Dated, Valid, Absent, Step}
use Rattle.laws_table.proofs.SlotKinds.{vacant_free, clean_occupied}

-- ── one slot anew ──
-- a slot of the list with x anew: x itself, or another as it was
slot_cases : (P : ℕ → Slot → Type 0) (ss : List Slot) (x : ℕ) (s : Slot) → x < length ss → P x s → ((y : ℕ) → (y ≡ x → ⊥) → P y (get_or ss y vacant_slot)) → (y : ℕ) → P y (get_or (set ss x s) y vacant_slot)
slot_cases P ss x s hx a o y =
    elim (is (eqb y x)) [
      | yes! e ↦ rw (eqb-true y x e, get_or-set_same ss x s vacant_slot hx) a
      | no! e ↦ rw (get_or-set_other ss x y s vacant_slot (eqb-false y x e)) (o y (eqb-false y x e))
    ]

-- the same of a step
module _ {t u : State} {x nu ng nc nl : ℕ} {s : Slot} (p : Step t u x s nu ng nc nl) where
  pub step_here : Inv t → slot_at u x ≡ s
  step_here v = rw p.slots (get_or-set_same t.slots x s vacant_slot (omega (arith, p.low, v.size, v.small)))

  pub step_other : (y : ℕ) → (y ≡ x → ⊥) → slot_at u y ≡ slot_at t y
  step_other y n = rw p.slots (get_or-set_other t.slots x y s vacant_slot n)

-- no other slot holds the key of x
abbrev pub Alone : List Slot → ℕ → ℕ → CacheKey → Type 0
Alone ss c x key = (y : ℕ) → y < c → (y ≡ x → ⊥) → occupied (get_or ss y vacant_slot) ≡ true → (get_or ss y vacant_slot).key ≡ key → ⊥

distinct_set : (ss : List Slot) (c x : ℕ) (s : Slot) → x < length ss → (occupied s ≡ true → Alone ss c x s.key) → Distinct ss c → Distinct (set ss x s) c
distinct_set ss c x s hx alone d y z =
    slot_cases (λ y a. y < c → z < c → occupied a ≡ true → occupied (get_or (set ss x s) z vacant_slot) ≡ true → a.key ≡ (get_or (set ss x s) z vacant_slot).key → y ≡ z) ss x s hx
    (slot_cases (λ z b. x < c → z < c → occupied s ≡ true → occupied b ≡ true → s.key ≡ b.key → x ≡ z) ss x s hx (λ a b oa ob e. refl) (λ z n a b oa ob e. absurd (alone oa z b n ob (sym e))) z)
    (λ y n. slot_cases (λ z b. y < c → z < c → occupied (get_or ss y vacant_slot) ≡ true → occupied b ≡ true → (get_or ss y vacant_slot).key ≡ b.key → y ≡ z) ss x s hx
    (λ a b oa ob e. absurd (alone ob y a n oa e)) (λ z m a b oa ob e. d y z a b oa ob e) z)
    y

dated_set : (ss : List Slot) (c x n m : ℕ) (s : Slot) → x < length ss → n ≤ m → (is_clean s ≡ true → s.last_access ≤ m) → Dated ss c n → Dated (set ss x s) c m
dated_set ss c x n m s hx le a d y =
    slot_cases (λ y b. y < c → is_clean b ≡ true → b.last_access ≤ m) ss x s hx (λ hy e. a e) (λ y z hy e. omega (arith, d y hy e)) y

module _ (t : State) (w : Valid t) where
  -- a slot anew whose key no other slot holds, dated by no later number than the last
  pub valid_step : {u : State} {x nu ng nc nl : ℕ} (s : Slot) → Step t u x s nu ng nc nl → (occupied s ≡ true → Alone t.slots t.capacity x s.key) → t.next_access_sequence ≤ nu → (is_clean s ≡ true → s.last_access ≤ nu) → Valid u
  valid_step {u} {x} {nu} s p alone le old =
      let hx : x < length t.slots = omega (arith, p.low, w.0.size, w.0.small) in (
        p.inv,
        rw (p.slots, p.capacity) (distinct_set t.slots t.capacity x s hx alone w.1),
        rw (p.slots, p.capacity, p.uses) (dated_set t.slots t.capacity x t.next_access_sequence nu s hx le old w.2),
      )

  -- the key was there before
  pub own_key : (x : ℕ) (key : CacheKey) → x < t.capacity → occupied (slot_at t x) ≡ true → (slot_at t x).key ≡ key → Alone t.slots t.capacity x key
  own_key x key hx ho ek y hy n oy ey = n (w.1 y x hy hx oy ho (ey ∙ sym ek))

  pub valid_vacant : {u : State} {x ng nc nl : ℕ} → Step t u x vacant_slot t.next_access_sequence ng nc nl → Valid u
  valid_vacant p = valid_step vacant_slot p (λ e. absurd (false≢true (sym vacant_free ∙ e))) (omega arith) (λ e. absurd (false≢true e))

  pub valid_hit : {u : State} {x ng nc nl : ℕ} (key : CacheKey) → is_clean (slot_at t x) ≡ true → (slot_at t x).key ≡ key → Step t u x (clean_slot key (t.next_access_sequence + 1)) (t.next_access_sequence + 1) ng nc nl → Valid u
  valid_hit {x = x} key ec ek p = valid_step (clean_slot key (t.next_access_sequence + 1)) p (λ e. own_key x key p.low (clean_occupied (slot_at t x) ec) ek) (omega arith) (λ e. omega arith)

  pub valid_load : {u : State} {x ng nc nl : ℕ} (key : CacheKey) (g : ℕ) → Absent t key → Step t u x (loading_slot key g) (t.next_access_sequence + 1) ng nc nl → Valid u
  valid_load key g n p = valid_step (loading_slot key g) p (λ e y hy z oy ey. n y hy oy ey) (omega arith) (λ e. absurd (false≢true e))
