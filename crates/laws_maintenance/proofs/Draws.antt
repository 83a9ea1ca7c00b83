-- SPDX-License-Identifier: Apache-2.0
-- A key of the old table is restored into a table that is drawn from it: that stays so, and no other key comes or goes. Assumes nothing.
use Prim.Native.Nat.{ℕ, ◌+◌, ◌<◌, ◌≤◌}
use native.Mathlib.Omega.{arith}
use mathlib.Core.Path.{◌≡◌, refl, sym, ◌∙◌}
use mathlib.Core.Bool.{true, false, false≢true}
use mathlib.Core.Option.{Option, none, some}
use lib.Dec.{eqb}
use lib.ListN.{length}
use borrow.Author.Tests.{eqb-true, eqb-false}
use Rattle.basics.specs.Try.{Try, ok}
use Rattle.basics.proofs.Tests.{yes!, no!, is}
use Rattle.key.specs.declared.CacheKey.{CacheKey}
use Rattle.index.specs.Chain.{CHAIN}
use Rattle.state.specs.declared.Slot.{Slot}
use Rattle.state.specs.declared.State.{State}
use Rattle.state.specs.Slots.{slot_at, clean_slot, is_clean, occupied}
use Rattle.maintenance_restore.specs.Restore.{restore}
use Rattle.laws_table.specs.Table.{Inv, Absent, Step}
use Rattle.laws_table.proofs.ValidSteps.{step_here, step_other}
use Rattle.laws_table.proofs.SlotKinds.{clean_occupied}
use Rattle.laws_table.proofs.StepReserve.{chain_of}
use Rattle.laws_maintenance.specs.Calm.{Calm, Present}
use Rattle.laws_maintenance.specs.Drawn.{Origin, Drawn}
use Rattle.laws_maintenance.proofs.Restores as restores
use Rattle.laws_maintenance.proofs.CalmTables.{one_clean}

-- ── all that a has, b has in the same slots ──
pub record Over (a b : State) : Type 0 where
  pub capacity : b.capacity ≡ a.capacity
  pub kept : (x : ℕ) → x < a.capacity → is_clean (slot_at a x) ≡ true → slot_at b x ≡ slot_at a x

pub over_refl : (a : State) → Over a a
over_refl a = record { capacity = refl; kept = λ x h e. refl }

pub over_trans : {a b c : State} → Over a b → Over b c → Over a c
over_trans p q =
    record {
      capacity = q.capacity ∙ p.capacity;
      kept = λ x h e. q.kept x (omega (arith, p.capacity)) (rw (p.kept x h e) e) ∙ p.kept x h e;
    }

abbrev pub over_present : {a b : State} {k : CacheKey} → Over a b → Present a k → Present b k
over_present o p =
    let same = o.kept p.slot p.low p.clean in
    record { slot = p.slot; low = omega (arith, o.capacity, p.low); clean = rw same p.clean; key = rw same p.key }

-- ── one key more ──
-- u is n with the key of slot s of o, which n had not
pub record Draws (o n : State) (s : ℕ) (u : State) : Type 0 where
  pub one : u.clean ≡ n.clean + 1
  pub drawn : Drawn o u
  pub over : Over n u
  pub present : Present u (slot_at o s).key
  pub absent : (q : ℕ) → q < o.capacity → is_clean (slot_at o q) ≡ true → (q ≡ s → ⊥) → Absent n (slot_at o q).key → Absent u (slot_at o q).key

pub data Draw (o n : State) (v : Inv n) (s : ℕ) (r : Try (Option State)) : Type 0 where
  full! : CHAIN ≤ length (chain_of n v (slot_at o s).key) → r ≡ ok none → Draw o n v s r
  no_slot! : n.index.free_len ≡ 0 → r ≡ ok none → Draw o n v s r
  draws! : (u : State) → r ≡ ok (some u) → Draws o n s u → Draw o n v s r

module _ (o : State) (w : Calm o) (n : State) (d : Drawn o n) (s : ℕ) (hs : s < o.capacity) (cs : is_clean (slot_at o s) ≡ true) (ab : Absent n (slot_at o s).key) where
  -- the slot as it becomes
  abbrev now : Slot
  now = clean_slot (slot_at o s).key (slot_at o s).last_access

  module _ (u : State) (x nu ng : ℕ) (free : occupied (slot_at n x) ≡ false) (p : Step n u x now nu ng (n.clean + 1) n.loading) where
    at_new : slot_at u x ≡ now
    at_new = step_here p d.calm.inv

    at_old : (y : ℕ) → (y ≡ x → ⊥) → slot_at u y ≡ slot_at n y
    at_old y h = step_other p y h

    -- a slot of the new table: the new one, or an old one
    by_slot : (P : ℕ → Slot → Type 0) → P x now → ((y : ℕ) → y < n.capacity → P y (slot_at n y)) → (y : ℕ) → y < u.capacity → P y (slot_at u y)
    by_slot P a b y hy =
        elim (is (eqb y x)) [
          | yes! e ↦ rw (eqb-true y x e, at_new) a
          | no! e ↦ rw (at_old y (eqb-false y x e)) (b y (omega (arith, p.capacity)))
        ]

    one_key : (y z : ℕ) → y < u.capacity → z < u.capacity → occupied (slot_at u y) ≡ true → occupied (slot_at u z) ≡ true → (slot_at u y).key ≡ (slot_at u z).key → y ≡ z
    one_key y z hy hz =
        by_slot (λ y a. occupied a ≡ true → occupied (slot_at u z) ≡ true → a.key ≡ (slot_at u z).key → y ≡ z)
        (by_slot (λ z b. occupied now ≡ true → occupied b ≡ true → (slot_at o s).key ≡ b.key → x ≡ z) (λ i j e. refl) (λ z hz i j e. absurd (ab z hz j (sym e))) z hz)
        (λ y hy. by_slot (λ z b. occupied (slot_at n y) ≡ true → occupied b ≡ true → (slot_at n y).key ≡ b.key → y ≡ z) (λ i j e. absurd (ab y hy i e)) (λ z hz i j e. d.calm.distinct y z hy hz i j e) z hz) y hy

    -- an origin, by what the slot shows
    abbrev From : Slot → Type 0
    From a = (q : ℕ) × (q < o.capacity) × (is_clean (slot_at o q) ≡ true) × (a.key ≡ (slot_at o q).key) × (a.last_access ≡ (slot_at o q).last_access) × (a.generation ≡ 0)

    from : (y : ℕ) → y < u.capacity → is_clean (slot_at u y) ≡ true → Origin o u y
    from y hy e =
        let (q, low, clean, key, last, zero) = by_slot (λ y a. is_clean a ≡ true → From a) (λ i. (s, hs, cs, refl, refl, refl)) (λ y hy i. let g = d.origin y hy i in (g.slot, g.low, g.clean, g.key, g.last, g.zero)) y hy e in
        record { slot = q; low = low; clean = clean; key = key; last = last; zero = zero }

    drawn_more : Draws o n s u
    drawn_more =
        record {
          one = p.clean;
          drawn = record { calm = record { inv = p.inv; quiet = p.loading ∙ d.calm.quiet; distinct = one_key }; origin = from };
          over = record { capacity = p.capacity; kept = λ y hy e. at_old y (λ q. false≢true (sym free ∙ clean_occupied (slot_at n x) (rw q at e))) };
          present = record { slot = x; low = omega (arith, p.capacity, p.low); clean = rw at_new; key = rw at_new };
          absent = λ q hq cq ne h. by_slot (λ y a. occupied a ≡ true → a.key ≡ (slot_at o q).key → ⊥) (λ i e. ne (one_clean w q s hq hs cq cs (sym e))) h;
        }

  pub draw : Draw o n d.calm.inv s (restore n (slot_at o s).key (slot_at o s).last_access)
  draw =
      elim (restores.restored n d.calm.inv (slot_at o s).key (slot_at o s).last_access) [
        | restores.full! h e ↦ full! h e
        | restores.no_slot! h e ↦ no_slot! h e
        | restores.restored! x free u e p ↦ draws! u e (drawn_more u x n.next_access_sequence n.next_load_generation free p)
      ]
