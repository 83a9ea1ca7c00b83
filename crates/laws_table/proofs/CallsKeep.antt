-- SPDX-License-Identifier: Apache-2.0
-- Every call keeps a table valid, refused or not, and none gives 10; `new` makes a valid table of 1 to 256 slots, and never gives 10.
-- Assumes nothing.
use Prim.Native.Nat.{ℕ, ◌+◌, ◌<◌, ◌≤◌, ◌^◌}
use native.Mathlib.Omega.{arith}
use mathlib.Core.Path.{◌≡◌, refl, sym, ap, ◌∙◌}
use mathlib.Core.Bool.{Bool, ◌&&◌}
use mathlib.Core.List.{List}
use lib.Dec.{ltb, leb, eqb}
use lib.ListN.{length}
use borrow.Author.Tests.{eqb-true, leb-true}
use Rattle.basics.specs.Try.{Try, ok, refuse}
use Rattle.basics.specs.Refusals.{INVALID, ALLOCATION, PINS, SLOT, STALE, EXHAUSTED, UNCLEAN, UNGIVEN, STOP}
use Rattle.basics.specs.Capacity.{need_capacity}
use Rattle.basics.specs.Answers.{Fine, done}
use Rattle.basics.proofs.Tests.{yes!, no!, is}
use Rattle.basics.proofs.Capacities.{capacity_allowed}
use Rattle.key.specs.declared.CacheKey.{CacheKey}
use Rattle.state.specs.declared.State.{State}
use Rattle.state.specs.declared.LoadToken.{LoadToken}
use Rattle.state.specs.Slots.{slot_at, clean_slot}
use Rattle.state.specs.Answers.{Given, After, told, unless_refused}
use Rattle.state.specs.Fresh.{fresh, new}
use Rattle.state.specs.Access.{capacity_busy, miss, access_seen, access}
use Rattle.state.specs.Tokens.{outstanding, publish, abort}
use Rattle.state.specs.Lookup.{lookup}
use Rattle.state.specs.Remove.{remove, detach}
use Rattle.laws_table.specs.Table.{Inv, Valid, Kept, Absent}
use Rattle.laws_table.proofs.SlotKinds.{loading_occupied}
use Rattle.laws_table.proofs.TableParts.{sound_inv}
use Rattle.laws_table.proofs.FreshTable.{fresh_valid}
use Rattle.laws_table.proofs.StepTokens.{outstanding_loads, publish_step, abort_step}
use Rattle.laws_table.proofs.StepLeave.{Left, no_slot!, unclean!, left!, detached, removed}
use Rattle.laws_table.proofs.KeySearch.{absent!, waits!, hit!, spent!, sought}
use Rattle.laws_table.proofs.Misses.{Missed, barred!, full!, pinned!, takes!, evicts!, spent_generation!, spent_use!, missed}
use Rattle.laws_table.proofs.ValidSteps.{valid_step, own_key, valid_vacant, valid_hit, valid_load}

-- ── answers ──
abbrev number : {A : Type 0} → Try A → ℕ
number (ok a) = 0
number (refuse n) = n

given : {A : Type 0} {r : Try A} {a : A} → r ≡ ok a → r ≡ refuse STOP → ⊥
given e q = let z : ◌≡◌ {A = ℕ} 0 1 = cc in omega arith

other : {A : Type 0} {r : Try A} (n : ℕ) → (n ≡ STOP → ⊥) → r ≡ refuse n → r ≡ refuse STOP → ⊥
other n ne e q = ne (sym (ap number e) ∙ ap number q)

-- what a refusal by another number leaves
refused : {A : Type 0} (t : State) (n : ℕ) → Valid t → (n ≡ STOP → ⊥) → Kept {A = A} (record { table = t; answer = refuse n })
refused t n w ne = record { valid = w; runs = other n ne refl }

-- what an answer leaves
answers : {A : Type 0} (u : State) (a : A) → Valid u → Kept (told u a)
answers u a w = record { valid = w; runs = given refl }

-- ── new ──
pub new_keeps : (c : ℕ) → 0 < c → c ≤ 256 → (new c ≡ told (fresh c) done) × Kept (new c)
unfolding new
new_keeps c hp hs = rw (capacity_allowed c hp hs) (refl, answers (fresh c) done (fresh_valid c hp hs))

-- any other capacity is refused by 1 or 2
pub new_runs : (c : ℕ) → (new c).answer ≡ refuse STOP → ⊥
unfolding new need_capacity
new_runs c =
    elim (is (ltb 0 c && leb c (2 ^ 62))) [
      | no! e ↦ rw e (other INVALID (omega arith) refl)
      | yes! e ↦ elim (is (leb c 256)) [ no! q ↦ rw (e, q) (other ALLOCATION (omega arith) refl) | yes! q ↦ rw (e, q) (given refl) ]
    ]

-- ── the calls ──
module _ (t : State) (w : Valid t) where
  abbrev v : Inv t
  v = w.0

  pub publish_keeps : (k : LoadToken) → Kept (publish t k)
  unfolding publish
  publish_keeps k =
      elim (is (outstanding t k)) [
        | no! e ↦ rw (sound_inv t v, e) (refused t STALE w (omega arith))
        | yes! e ↦ elim (is (leb k.access_sequence t.next_access_sequence)) [
          | no! q ↦ rw (sound_inv t v, e, q) (refused t UNGIVEN w (omega arith))
          | yes! q ↦
              let le = leb-true k.access_sequence t.next_access_sequence q in
              let l = outstanding_loads t k e in
              let (u, z, p) = publish_step t v k e le in
              let s = clean_slot k.key k.access_sequence in
              let good : Kept (told u done) = answers u done (valid_step t w s p (λ o. own_key t w k.slot k.key l.low (loading_occupied (slot_at t k.slot) l.loading) l.key) (omega arith) (λ o. le)) in
              rw z good
        ]
      ]

  pub abort_keeps : (k : LoadToken) → Kept (abort t k)
  unfolding abort
  abort_keeps k =
      elim (is (outstanding t k)) [
        | no! e ↦ rw (sound_inv t v, e) (refused t STALE w (omega arith))
        | yes! e ↦ let (u, z, p) = abort_step t v k e in rw z (answers u done (valid_vacant t w p))
      ]

  pub lookup_keeps : (key : CacheKey) → Kept (lookup t key)
  unfolding lookup
  lookup_keeps key =
      rw (sound_inv t v) (elim (sought t v key w.2) [
        | absent! n e ↦ rw e (record { valid = w; runs = given refl })
        | waits! x hx el ek e ↦ rw e (record { valid = w; runs = given refl })
        | hit! x ec ek u e p ↦ rw e (record { valid = valid_hit t w key ec ek p; runs = given refl })
        | spent! m e ↦ rw e (refused t EXHAUSTED w (omega arith))
      ])

  leaving_keeps : (x : ℕ) (r : After Fine) → Left t x r → Kept r
  leaving_keeps x r d =
      elim d [
        | no_slot! h e ↦ rw e (refused t SLOT w (omega arith))
        | unclean! h q e ↦ rw e (refused t UNCLEAN w (omega arith))
        | left! q u e p ↦ rw e (answers u done (valid_vacant t w p))
      ]

  pub remove_keeps : (x : ℕ) → Kept (remove t x)
  remove_keeps x = leaving_keeps x (remove t x) (removed t v x)

  pub detach_keeps : (x : ℕ) → Kept (detach t x)
  detach_keeps x = leaving_keeps x (detach t x) (detached t v x)

  miss_keeps : (key : CacheKey) (allow : Bool) (pins : List ℕ) → Absent t key → (r : Try (After Given)) → Missed t v key allow pins r → Kept (unless_refused t r)
  unfolding capacity_busy
  miss_keeps key allow pins n r d =
      elim d [
        | barred! ea e ↦ rw e (record { valid = w; runs = given refl })
        | full! ea h e ↦ rw e (record { valid = w; runs = given refl })
        | pinned! ea room hv f e ↦ rw e (record { valid = w; runs = given refl })
        | takes! ea room hv ho u e p ↦ rw e (record { valid = valid_load t w key (t.next_load_generation + 1) n p; runs = given refl })
        | evicts! ea room hv j hp hj f h ec u e p ↦ rw e (record { valid = valid_load t w key (t.next_load_generation + 1) n p; runs = given refl })
        | spent_generation! m e ↦ rw e (refused t EXHAUSTED w (omega arith))
        | spent_use! m g e ↦ rw e (record { valid = w; runs = other EXHAUSTED (omega arith) refl })
      ]

  pub access_keeps : (key : CacheKey) (allow : Bool) (pins : List ℕ) → Kept (access t key allow pins)
  unfolding access access_seen
  access_keeps key allow pins =
      rw (sound_inv t v) (elim (is (eqb (length pins) t.capacity)) [
        | no! e ↦ rw e (refused t PINS w (omega arith))
        | yes! e ↦ elim (sought t v key w.2) [
          | absent! n q ↦ rw (e, q) (miss_keeps key allow pins n (miss t key allow pins) (missed t v key pins allow (eqb-true (length pins) t.capacity e)))
          | waits! x hx el ek q ↦ rw (e, q) (record { valid = w; runs = given refl })
          | hit! x ec ek u q p ↦ rw (e, q) (record { valid = valid_hit t w key ec ek p; runs = given refl })
          | spent! m q ↦ rw (e, q) (refused t EXHAUSTED w (omega arith))
        ]
      ])
