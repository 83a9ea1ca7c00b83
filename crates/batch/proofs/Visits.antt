-- SPDX-License-Identifier: Apache-2.0
-- The shared walk, and the answer of one key, at a slot of the chain and at its end. Assumes nothing.
use Rattle.std.proofs.Common.{if◌then◌else◌}
use Prim.Native.Nat.{ℕ, zero, suc, ◌+◌, ◌-◌, ◌≤◌, ◌<◌}
use native.Mathlib.Omega.{arith}
use mathlib.Core.Path.{◌≡◌, refl, sym, ap, ◌∙◌}
use mathlib.Core.Bool.{Bool, true, false, not, ◌&&◌, false≢true}
use mathlib.Core.List.{List}
use lib.Dec.{eqb}
use lib.ListN.{length}
use borrow.Author.Tests.{lt-leb, le-leb, ne_eqb}
use Rattle.basics.specs.Try.{Try, ok, refuse, ◌>>=◌}
use Rattle.basics.specs.Refusals.{STOP}
use Rattle.basics.specs.Numbers.{NONE}
use Rattle.basics.proofs.Tests.{left_suc}
use Rattle.key.specs.declared.CacheKey.{CacheKey}
use Rattle.index.specs.Chain.{CHAIN, next_of}
use Rattle.state.specs.declared.Slot.{Slot}
use Rattle.state.specs.declared.State.{State}
use Rattle.state.specs.Slots.{slot_at}
use Rattle.batch.specs.Batch.{holds, unfound, end_of_chain, visit_from, clean_or_none, slot_from}
use Rattle.batch.specs.Parts.{marked, asked_at, mark_at, still_sought, answered, visited_more}
use Rattle.batch.proofs.Marks.{marked_unfound}

-- ── slots visited so far, and the rest ──
more_suc : (r : Try ℕ) → (r >>= λ n. ok (suc n)) ≡ visited_more 1 r
more_suc (ok n) = ap (λ (x : ℕ). ok x) (omega arith)
more_suc (refuse n) = refl

pub more_one : (visited : ℕ) (r : Try ℕ) → visited_more visited (visited_more 1 r) ≡ visited_more (visited + 1) r
more_one visited (ok n) = ap (λ (x : ℕ). ok x) (omega arith)
more_one visited (refuse n) = refl

-- ── the shared walk, with n steps left ──
module _ (t : State) (kept : ℕ) (keys : List CacheKey) where
  -- no key is sought
  pub visit_found : (n slot : ℕ) → eqb (length keys) 0 ≡ true → visit_from n t kept keys slot ≡ ok 0
  unfolding visit_from
  visit_found zero slot e = rw e
  visit_found (suc n) slot e = rw e

  pub visit_end : (n : ℕ) → eqb (length keys) 0 ≡ false → visit_from n t kept keys NONE ≡ end_of_chain kept n
  unfolding visit_from
  visit_end zero e = rw e
  visit_end (suc n) e = rw e

  -- a slot too many, or one not below the capacity
  pub visit_spent : (n slot : ℕ) → eqb (length keys) 0 ≡ false → (slot ≡ NONE → ⊥) → n ≡ 0 → visit_from n t kept keys slot ≡ refuse STOP
  unfolding visit_from
  visit_spent zero slot e d z = rw (e, ne_eqb slot NONE d)
  visit_spent (suc n) slot e d z = absurd (omega arith)

  pub visit_astray : (n slot : ℕ) → eqb (length keys) 0 ≡ false → (slot ≡ NONE → ⊥) → t.capacity ≤ slot → visit_from n t kept keys slot ≡ refuse STOP
  unfolding visit_from
  visit_astray zero slot e d a = rw (e, ne_eqb slot NONE d)
  visit_astray (suc n) slot e d a = rw (e, ne_eqb slot NONE d, le-leb t.capacity slot a)

  pub visit_on : (n slot : ℕ) → eqb (length keys) 0 ≡ false → (slot ≡ NONE → ⊥) → slot < t.capacity
      → visit_from (suc n) t kept keys slot ≡ visited_more 1 (visit_from n t kept (unfound (slot_at t slot) keys) (next_of t.index slot))
  unfolding visit_from
  visit_on n slot e d l =
      rw (e, ne_eqb slot NONE d, lt-leb t.capacity slot l) (more_suc (visit_from n t kept (unfound (slot_at t slot) keys) (next_of t.index slot)))

-- ── the answer of one key ──
pub slot_ends : (n : ℕ) (t : State) (key : CacheKey) → t.capacity ≤ 256 → slot_from n t key NONE ≡ NONE
unfolding slot_from
slot_ends zero t key h = refl
slot_ends (suc n) t key h = rw (le-leb t.capacity NONE (omega arith))

pub slot_goes : (n : ℕ) (t : State) (key : CacheKey) (slot : ℕ) → slot < t.capacity
    → slot_from (suc n) t key slot ≡ (if holds (slot_at t slot) key then clean_or_none (slot_at t slot) slot else slot_from n t key (next_of t.index slot))
unfolding slot_from
slot_goes n t key slot l = rw (lt-leb t.capacity slot l)

-- ── what a visit of a slot does, in the walk ──
-- the slots visited, with so many of 64 steps gone
pub walk_on : (t : State) (kept visited slot : ℕ) (before after : List Bool) (keys : List CacheKey) → length before ≡ length keys → length after ≡ length keys
    → ((p : ℕ) → p < length keys → mark_at after p ≡ still_sought (slot_at t slot) (mark_at before p) (asked_at keys p))
    → eqb (length (marked before keys)) 0 ≡ false → (slot ≡ NONE → ⊥) → slot < t.capacity → visited < CHAIN
    → visited_more visited (visit_from (CHAIN - visited) t kept (marked before keys) slot)
    ≡ visited_more (visited + 1) (visit_from (CHAIN - (visited + 1)) t kept (marked after keys) (next_of t.index slot))
walk_on t kept visited slot before after keys e f h some d l v =
    let left : ℕ = CHAIN - (visited + 1) in
    let sought : List CacheKey = unfound (slot_at t slot) (marked before keys) in
    rw (left_suc CHAIN visited v, visit_on t kept (marked before keys) left slot some d l, marked_unfound (slot_at t slot) before after keys e f h)
    (more_one visited (visit_from left t kept sought (next_of t.index slot)))

-- a place at which a key is still sought has no answer yet
unanswered_at : (sought held : Bool) (found number : ℕ) {after : Bool} {new : ℕ} → (sought ≡ true → number ≡ NONE) → after ≡ (sought && not held)
    → new ≡ (if sought && held then found else number) → after ≡ true → new ≡ NONE
unanswered_at true false found number h e f y = f ∙ h refl
unanswered_at true true found number h e f y = absurd (false≢true (sym e ∙ y))
unanswered_at false held found number h e f y = absurd (false≢true (sym e ∙ y))

-- what is known of a place before a slot is known of it behind the slot
place_on : {A : Type 0} (sought held : Bool) (found rest before : A)
    → (if sought then (if held then found else rest) else before) ≡ (if sought && not held then rest else (if sought && held then found else before))
place_on true true found rest before = refl
place_on true false found rest before = refl
place_on false held found rest before = refl

module _ (t : State) (key : CacheKey) (visited slot : ℕ) (sought : Bool) (number : ℕ) (low : slot < t.capacity) where
  abbrev s : Slot
  s = slot_at t slot

  pub answer_on : {after : Bool} {new : ℕ} → visited < CHAIN → after ≡ still_sought s sought key → new ≡ answered s slot sought key number
      → (if sought then slot_from (CHAIN - visited) t key slot else number) ≡ (if after then slot_from (CHAIN - (visited + 1)) t key (next_of t.index slot) else new)
  answer_on v e f =
      let left : ℕ = CHAIN - (visited + 1) in
      rw (left_suc CHAIN visited v, slot_goes left t key slot low, e, f) (place_on sought (holds s key) (clean_or_none s slot) (slot_from left t key (next_of t.index slot)) number)

  pub unanswered_on : {after : Bool} {new : ℕ} → (sought ≡ true → number ≡ NONE) → after ≡ still_sought s sought key → new ≡ answered s slot sought key number
      → after ≡ true → new ≡ NONE
  unanswered_on h e f y = unanswered_at sought (holds s key) (clean_or_none s slot) number h e f y

-- at the chain's end, where the rest of the walk has no answer
pub answer_at_end : (n : ℕ) (t : State) (key : CacheKey) (slot : ℕ) (sought : Bool) (number : ℕ) → t.capacity ≤ 256 → slot ≡ NONE → (sought ≡ true → number ≡ NONE)
    → (if sought then slot_from n t key slot else number) ≡ number
answer_at_end n t key slot true number h e u = rw e (slot_ends n t key h) ∙ sym (u refl)
answer_at_end n t key slot false number h e u = refl
