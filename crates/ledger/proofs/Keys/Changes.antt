-- SPDX-License-Identifier: Apache-2.0
-- A key used, and a key made clean: the list changes at that key only. Assumes nothing.
use Prim.Native.Nat.{ℕ, ◌<◌}
use native.Mathlib.Omega.{arith}
use mathlib.Core.Path.{◌≡◌, refl, sym, ◌∙◌}
use mathlib.Core.Bool.{true}
use Rattle.key.specs.declared.CacheKey.{CacheKey}
use Rattle.key.proofs.Keys.{same_key_lem}
use Rattle.ledger.specs.Ledger.{Held, used_one, clean_one}
use Rattle.ledger.proofs.Keys.Lists.{alike, unlike, compared}
use Rattle.ledger.proofs.Keys.Apart.{Differ}

-- ── used ──
abbrev pub used_at : ℕ → Held → Held
used_at n h = record { key = h.key; slot = h.slot; clean = h.clean; last = n }

pub used_yes : (key : CacheKey) (n : ℕ) (h : Held) → h.key ≡ key → used_one key n h ≡ used_at n h
unfolding used_one
used_yes key n h e = rw (e, same_key_lem key)

pub used_no : (key : CacheKey) (n : ℕ) (h : Held) → (h.key ≡ key → ⊥) → used_one key n h ≡ h
unfolding used_one
used_no key n h ne = elim (compared h.key key) [ alike e q ↦ absurd (ne q) | unlike e q ↦ rw e ]

-- by cases
pub by_used : (key : CacheKey) (n : ℕ) (h : Held) (P : Held → Type 0) → (h.key ≡ key → P (used_at n h)) → ((h.key ≡ key → ⊥) → P h) → P (used_one key n h)
by_used key n h P a b = elim (compared h.key key) [ alike e q ↦ rw (used_yes key n h q) (a q) | unlike e q ↦ rw (used_no key n h q) (b q) ]

pub used_slot : (key : CacheKey) (n : ℕ) (h : Held) → (used_one key n h).slot ≡ h.slot
used_slot key n h = by_used key n h (λ y. y.slot ≡ h.slot) (λ q. refl) (λ q. refl)

pub used_differ : (key : CacheKey) (n : ℕ) (h g : Held) → h.last < n → g.last < n → Differ h g → Differ (used_one key n h) (used_one key n g)
used_differ key n h g a b d =
    by_used key n h (λ y. Differ y (used_one key n g)) (λ p. by_used key n g (λ z. Differ (used_at n h) z) (λ q. absurd (d.0 (p ∙ sym q))) (λ q. (d.0, d.1, omega arith)))
    (λ p. by_used key n g (λ z. Differ h z) (λ q. (d.0, d.1, omega arith)) (λ q. d))

-- ── made clean ──
abbrev pub cleaned : Held → Held
cleaned h = record { key = h.key; slot = h.slot; clean = true; last = h.last }

pub clean_yes : (key : CacheKey) (h : Held) → h.key ≡ key → clean_one key h ≡ cleaned h
unfolding clean_one
clean_yes key h e = rw (e, same_key_lem key)

pub clean_no : (key : CacheKey) (h : Held) → (h.key ≡ key → ⊥) → clean_one key h ≡ h
unfolding clean_one
clean_no key h ne = elim (compared h.key key) [ alike e q ↦ absurd (ne q) | unlike e q ↦ rw e ]

-- what does not read whether the key is clean
pub by_clean : (key : CacheKey) (h : Held) (P : Held → Type 0) → P (cleaned h) → P h → P (clean_one key h)
by_clean key h P a b = elim (compared h.key key) [ alike e q ↦ rw (clean_yes key h q) a | unlike e q ↦ rw (clean_no key h q) b ]

pub clean_slot_lem : (key : CacheKey) (h : Held) → (clean_one key h).slot ≡ h.slot
clean_slot_lem key h = by_clean key h (λ y. y.slot ≡ h.slot) refl refl

pub clean_differ : (key : CacheKey) (h g : Held) → Differ h g → Differ (clean_one key h) (clean_one key g)
clean_differ key h g d = by_clean key h (λ y. Differ y (clean_one key g)) (by_clean key g (λ z. Differ (cleaned h) z) d d) (by_clean key g (λ z. Differ h z) d d)
