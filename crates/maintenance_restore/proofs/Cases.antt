-- SPDX-License-Identifier: Apache-2.0
-- The rules of resize's pins and restoring one step on and at their ends, each as an equation on plain variables, and what the code's answers
-- tell of a rule. Assumes nothing.
use Rattle.std.proofs.Common.{if◌then◌else◌, cond, count_by, length, leb, pow_pos, pow_mono, leb-false, leb-true}
use Rattle.std.proofs.lemmas.List.Recursion.{is_count_by}
use Rattle.std.specs.Int.{IsPowerOfTwo}
use Rattle.std.specs.List.{list_all, zip}
use Rattle.std.proofs.Math.Bool.{and-false}
use Prim.Native.Nat.{ℕ, zero, suc, max, ◌+◌, ◌-◌, ◌*◌, ◌/◌, ◌^◌, ◌≤◌, ◌<◌}
use mathlib.Core.Logic.{◌⊎◌, inl, inr}
use mathlib.Core.Path.{◌≡◌, refl, sym, ◌∙◌, ap}
use mathlib.Core.Bool.{Bool, true, false, not, ◌&&◌, ◌||◌}
use mathlib.Core.List.{List, [], ◌∷◌}
use mathlib.Core.Option.{Option, none, some}
use native.Mathlib.Omega.{arith}
use lib.Dec.{ltb, eqb}
use lib.ListN.{get_or}
use borrow.Author.Tests.{ltb-true, lt-ltb, le-ltb}
use Rattle.basics.specs.Try.{Try, ok, refuse, ◌>>=◌}
use Rattle.basics.specs.Refusals.{STOP}
use Rattle.basics.specs.Numbers.{NONE, power_over}
use Rattle.basics.proofs.Capacities.{capacity_allowed}
use Rattle.basics.proofs.Tests.{and_left, met, yes!, no!, is, bind_same, left_suc, left_none}
use Rattle.key.proofs.Least.{power_least, least_one}
use Rattle.key.specs.declared.CacheKey.{CacheKey}
use Rattle.index.specs.declared.Index.{Index}
use Rattle.index.specs.Chain.{sized, next_of, head_of, insert_index}
use Rattle.index.proofs.Cases.{has_sizes}
use Rattle.state.specs.declared.State.{State}
use Rattle.state.specs.declared.Slot.{Slot}
use Rattle.state.specs.Slots.{slot_at, vacant_slot, is_clean}
use Rattle.maintenance_restore.specs.Pins.{pin_count, pins_clean}
use Rattle.maintenance_restore.specs.Restore.{restore, and_on, restore_pinned, or_else, candidate}
use Rattle.maintenance_restore.specs.Tries.{tries_on, tries_if, tries_pinned, tries_again, tries_candidate}
use Rattle.eviction.specs.Victim.{unpinned}
use Rattle.basics.specs.Answers.{Fine}
use Rattle.state.specs.declared.Outcome.{Outcome}
use Rattle.state.specs.Answers.{After, finished_after}
use Rattle.state.specs.Fresh.{fresh, new}

-- ---- pins

one_pin : (b : Bool) (n : ℕ) → (if b then n else n + 1) ≡ cond (not b) (1 + n) n
one_pin true n = refl
one_pin false n = omega arith

-- the rule as std's count
pub pinned : (pins : List ℕ) → pin_count pins ≡ count_by (λ p. not (eqb p 0)) pins
unfolding pin_count
pinned = is_count_by pin_count (λ p. not (eqb p 0)) refl (λ p pins. one_pin (eqb p 0) (pin_count pins))

-- the slots from k on are ss, and the pins are ps
clean_from : (t : State) (pins : List ℕ) (ss : List Slot) (ps : List ℕ) (k : ℕ) → length ps ≤ length ss
    → ((i : ℕ) → slot_at t (k + i) ≡ get_or ss i vacant_slot) → ((i : ℕ) → get_or pins (k + i) 0 ≡ get_or ps i 0)
    → list_all (λ p. eqb p.1 0 || is_clean p.0) (zip ss ps) ≡ pins_clean (length ps) t pins k
unfolding pins_clean
clean_from t pins [] [] k l a b = refl
clean_from t pins (s ∷ ss) [] k l a b = refl
clean_from t pins [] (p ∷ ps) k l a b = absurd (omega arith)
clean_from t pins (s ∷ ss) (p ∷ ps) k l a b =
    let x : slot_at t k ≡ s = ap (λ n. slot_at t n) (omega arith) ∙ a 0 in
    let y : get_or pins k 0 ≡ p = ap (λ n. get_or pins n 0) (omega arith) ∙ b 0 in
    rw (x, y, clean_from t pins ss ps (k + 1) (omega arith) (λ i. ap (λ n. slot_at t n) (omega arith) ∙ a (suc i)) (λ i. ap (λ n. get_or pins n 0) (omega arith) ∙ b (suc i))) refl

-- the rule as a test of each slot with its pin
pub clean_all : (t : State) (pins : List ℕ) (c : ℕ) → c ≤ 256 → length t.slots ≡ 256 → length pins ≡ c
    → list_all (λ p. eqb p.1 0 || eqb p.0.kind 2) (zip t.slots pins) ≡ pins_clean c t pins 0
clean_all t pins c l n e =
    rw (← e) (clean_from t pins t.slots pins 0 (omega arith) (λ i. ap (λ n. slot_at t n) (omega arith)) (λ i. ap (λ n. get_or pins n 0) (omega arith)))

-- ---- std's next power of two is the rule's

pub next_power : (n p : ℕ) → n ≤ 256 → IsPowerOfTwo p → n ≤ p → p / 2 < max 1 n → p ≡ power_over (max n 1)
next_power n p h (k, e) over half =
    least_one (record { power = (k, e); over = omega (arith, e, pow_pos k); least = λ j a. rw e (below k j (rw e at half) a) }) (power_least (max n 1) (omega arith))
  where
    below : (k j : ℕ) → 2 ^ k / 2 < max 1 n → max n 1 ≤ 2 ^ j → 2 ^ k ≤ 2 ^ j
    below zero j g a = pow_pos j
    below (suc k) j g a =
        elim (is (leb j k)) [
          | yes! b ↦ let z : 2 ^ j ≤ 2 ^ k = pow_mono (leb-true j k b) in absurd (omega arith)
          | no! b ↦ pow_mono (leb-false j k b)
        ]

pub next_small : (n p : ℕ) → n ≤ 256 → IsPowerOfTwo p → n ≤ p → p / 2 < max 1 n → p ≤ 256
next_small n p h b over half = rw (next_power n p h b over half) ((power_least (max n 1) (omega arith)).least 8 (omega arith))

-- ---- a slot that takes a key is one of the table
pub inserted_low : (c : ℕ) (ix made : Index) (key : CacheKey) (slot : ℕ) → ok made ≡ insert_index c ix key slot → (slot < c) × (c ≤ 256)
unfolding insert_index
inserted_low c ix made key slot e =
    let f = met (sized c ix) STOP _ made (sym e) in
    let low = ltb slot c in
    let free = eqb (next_of ix slot) NONE in
    let other = not (eqb (head_of ix key) slot) in
    let g = met (low && free && other) STOP _ made f.1 in
    (ltb-true slot c (and_left low free (and_left (low && free) other g.0)), (has_sizes f.0).small)

-- ---- the pinned keys, slot beside pin

-- the keys of the slots with a pin are restored into t
unfoldable pub restored_from : List Slot → List ℕ → State → Try (Option State)
restored_from [] ps t = ok (some t)
restored_from (s ∷ ss) [] t = ok (some t)
restored_from (s ∷ ss) (p ∷ ps) t =
    if eqb p 0 then restored_from ss ps t else do
      u ← restore t s.key s.last_access
      and_on u (λ v. restored_from ss ps v)

-- how many of them are tried
unfoldable pub tried_from : List Slot → List ℕ → State → ℕ
tried_from [] ps t = 0
tried_from (s ∷ ss) [] t = 0
tried_from (s ∷ ss) (p ∷ ps) t =
    if eqb p 0 then tried_from ss ps t else
    1 + tries_on (restore t s.key s.last_access) (λ u. tries_if u (λ v. tried_from ss ps v))

pub from_none : (ss : List Slot) (ps : List ℕ) (t : State) → (length ss ≡ 0) ⊎ (length ps ≡ 0)
    → (restored_from ss ps t ≡ ok (some t)) × (tried_from ss ps t ≡ 0)
unfolding restored_from tried_from
from_none [] ps t e = (refl, refl)
from_none (s ∷ ss) [] t e = (refl, refl)
from_none (s ∷ ss) (p ∷ ps) t (inl e) = absurd (omega arith)
from_none (s ∷ ss) (p ∷ ps) t (inr e) = absurd (omega arith)

and_same : (u : Option State) (f g : State → Try (Option State)) → ((v : State) → f v ≡ g v) → and_on u f ≡ and_on u g
and_same none f g e = refl
and_same (some v) f g e = e v

tries_same : (r : Try (Option State)) (f g : State → ℕ) → ((v : State) → f v ≡ g v) → tries_on r (λ u. tries_if u f) ≡ tries_on r (λ u. tries_if u g)
tries_same (ok none) f g e = refl
tries_same (ok (some v)) f g e = e v
tries_same (refuse n) f g e = refl

-- the slots from k on are ss, and the pins are ps
pinned_from : (old : State) (pins : List ℕ) (ss : List Slot) (ps : List ℕ) (k : ℕ) (t : State) → length ps ≤ length ss
    → ((i : ℕ) → slot_at old (k + i) ≡ get_or ss i vacant_slot) → ((i : ℕ) → get_or pins (k + i) 0 ≡ get_or ps i 0)
    → (restored_from ss ps t ≡ restore_pinned (length ps) old pins k t) × (tried_from ss ps t ≡ tries_pinned (length ps) old pins k t)
unfolding restore_pinned restored_from tries_pinned tried_from
pinned_from old pins [] [] k t l a b = (refl, refl)
pinned_from old pins (s ∷ ss) [] k t l a b = (refl, refl)
pinned_from old pins [] (p ∷ ps) k t l a b = absurd (omega arith)
pinned_from old pins (s ∷ ss) (p ∷ ps) k t l a b =
    let x : slot_at old k ≡ s = ap (λ n. slot_at old n) (omega arith) ∙ a 0 in
    let y : get_or pins k 0 ≡ p = ap (λ n. get_or pins n 0) (omega arith) ∙ b 0 in
    let on : (v : State) → (restored_from ss ps v ≡ restore_pinned (length ps) old pins (k + 1) v) × (tried_from ss ps v ≡ tries_pinned (length ps) old pins (k + 1) v) =
    λ v. pinned_from old pins ss ps (k + 1) v (omega arith) (λ i. ap (λ n. slot_at old n) (omega arith) ∙ a (suc i)) (λ i. ap (λ n. get_or pins n 0) (omega arith) ∙ b (suc i)) in (
      rw (x, y, (on t).0, bind_same (restore t s.key s.last_access) _ _ (λ u g. and_same u _ _ (λ v. (on v).0))) refl,
      rw (x, y, (on t).1, tries_same (restore t s.key s.last_access) _ _ (λ v. (on v).1)) refl,
    )

module _ (old : State) (pins : List ℕ) (t : State) (c : ℕ) (l : c ≤ 256) (n : length old.slots ≡ 256) (e : length pins ≡ c) where
  all_pinned : (restored_from old.slots pins t ≡ restore_pinned c old pins 0 t) × (tried_from old.slots pins t ≡ tries_pinned c old pins 0 t)
  all_pinned =
      rw (← e) (pinned_from old pins old.slots pins 0 t (omega arith) (λ i. ap (λ n. slot_at old n) (omega arith)) (λ i. ap (λ n. get_or pins n 0) (omega arith)))

  pub pinned_all : restored_from old.slots pins t ≡ restore_pinned c old pins 0 t
  pinned_all = all_pinned.0

  pub pinned_tried : tried_from old.slots pins t ≡ tries_pinned c old pins 0 t
  pinned_tried = all_pinned.1

few_on : (r : Try (Option State)) (f : State → ℕ) (n : ℕ) → ((v : State) → f v ≤ n) → tries_on r (λ u. tries_if u f) ≤ n
few_on (ok none) f n e = omega arith
few_on (ok (some v)) f n e = e v
few_on (refuse m) f n e = omega arith

few_if : (b : Bool) {m k n : ℕ} → m ≤ n → k ≤ n → (if b then m else 1 + k) ≤ suc n
few_if true e f = omega arith
few_if false e f = omega arith

-- one attempt tries no more keys than slots are left
pub few_pinned : (left : ℕ) (old : State) (pins : List ℕ) (slot : ℕ) (t : State) → tries_pinned left old pins slot t ≤ left
unfolding tries_pinned
few_pinned zero old pins slot t = omega arith
few_pinned (suc left) old pins slot t =
    few_if (unpinned pins slot) (few_pinned left old pins (slot + 1) t)
    (few_on (restore t (slot_at old slot).key (slot_at old slot).last_access) _ left (λ v. few_pinned left old pins (slot + 1) v))

-- ---- the capacity that takes the pinned keys

module _ (k i : ℕ) (old : State) (pins : List ℕ) (shrinking : Bool) (c : ℕ) where
  -- the attempt at this capacity, and what comes after one in which a key was refused
  abbrev attempt : Try (Option State)
  attempt = restore_pinned old.capacity old pins 0 (fresh c)

  abbrev tried : ℕ
  tried = tries_pinned old.capacity old pins 0 (fresh c)

  candidate_step : i < k → candidate (k - i) old pins shrinking c
      ≡ (attempt >>= λ fits. or_else fits (if shrinking && ltb c (old.capacity / 2) then candidate (k - (i + 1)) old pins shrinking (c * 2) else ok none))
  unfolding candidate
  candidate_step l = rw (left_suc k i l)

  tries_step : i < k → tries_candidate (k - i) old pins shrinking c
      ≡ tried + tries_again attempt (if shrinking && ltb c (old.capacity / 2) then tries_candidate (k - (i + 1)) old pins shrinking (c * 2) else 0)
  unfolding tries_candidate
  tries_step l = rw (left_suc k i l)

  pub candidate_end : k ≤ i → candidate (k - i) old pins shrinking c ≡ ok none
  unfolding candidate
  candidate_end l = rw (left_none k i l)

  pub tries_end : k ≤ i → tries_candidate (k - i) old pins shrinking c ≡ 0
  unfolding tries_candidate
  tries_end l = rw (left_none k i l)

  module _ (l : i < k) where
    pub candidate_fits : {t : State} → ok (some t) ≡ attempt → candidate (k - i) old pins shrinking c ≡ ok (some t)
    candidate_fits p = candidate_step l ∙ rw (← p)

    pub tries_fits : {t : State} → ok (some t) ≡ attempt → tries_candidate (k - i) old pins shrinking c ≡ tried
    tries_fits p = tries_step l ∙ rw (← p) (omega arith)

    pub candidate_stops : {m : ℕ} → refuse m ≡ attempt → candidate (k - i) old pins shrinking c ≡ refuse m
    candidate_stops p = candidate_step l ∙ rw (← p)

    pub tries_stops : {m : ℕ} → refuse m ≡ attempt → tries_candidate (k - i) old pins shrinking c ≡ tried
    tries_stops p = tries_step l ∙ rw (← p) (omega arith)

    module _ (p : ok none ≡ attempt) where
      pub candidate_ends : shrinking ≡ false → candidate (k - i) old pins shrinking c ≡ ok none
      candidate_ends s = candidate_step l ∙ rw (← p, s)

      pub tries_ends : shrinking ≡ false → tries_candidate (k - i) old pins shrinking c ≡ tried
      tries_ends s = tries_step l ∙ rw (← p, s) (omega arith)

      pub candidate_half : old.capacity / 2 ≤ c → candidate (k - i) old pins shrinking c ≡ ok none
      candidate_half h = candidate_step l ∙ rw (← p, le-ltb c (old.capacity / 2) h, and-false shrinking)

      pub tries_half : old.capacity / 2 ≤ c → tries_candidate (k - i) old pins shrinking c ≡ tried
      tries_half h = tries_step l ∙ rw (← p, le-ltb c (old.capacity / 2) h, and-false shrinking) (omega arith)

      module _ (s : shrinking ≡ true) (h : c < old.capacity / 2) where
        pub candidate_twice : candidate (k - i) old pins shrinking c ≡ candidate (k - (i + 1)) old pins shrinking (c * 2)
        candidate_twice = candidate_step l ∙ rw (← p, s, lt-ltb c (old.capacity / 2) h)

        pub tries_twice : tries_candidate (k - i) old pins shrinking c ≡ tried + tries_candidate (k - (i + 1)) old pins shrinking (c * 2)
        tries_twice = tries_step l ∙ rw (← p, s, lt-ltb c (old.capacity / 2) h)

few_again : (r : Try (Option State)) {k n : ℕ} → k ≤ n → tries_again r k ≤ n
few_again (ok none) e = e
few_again (ok (some t)) e = omega arith
few_again (refuse m) e = omega arith

few_more : (b : Bool) {k n : ℕ} → k ≤ n → (if b then k else 0) ≤ n
few_more true e = e
few_more false e = omega arith

-- all attempts together try no more than this
pub few_tries : (left : ℕ) (old : State) (pins : List ℕ) (shrinking : Bool) (c : ℕ) → old.capacity ≤ 256 → tries_candidate left old pins shrinking c ≤ left * 256
unfolding tries_candidate
few_tries zero old pins shrinking c l = omega arith
few_tries (suc left) old pins shrinking c l =
    let here = few_pinned old.capacity old pins 0 (fresh c) in
    let there = few_again (restore_pinned old.capacity old pins 0 (fresh c)) (few_more (shrinking && ltb c (old.capacity / 2)) (few_tries left old pins shrinking (c * 2) l)) in
    omega (arith, here, there, l)

-- a capacity that a table may have gives a fresh one
pub made_fresh : (r : Outcome Unit) (c : ℕ) → 0 < c → c ≤ 256 → finished_after r ≡ new c → r.state ≡ fresh c
unfolding new
made_fresh r c p s e = ap (λ (f : After Fine). f.table) (rw (capacity_allowed c p s) at e)
