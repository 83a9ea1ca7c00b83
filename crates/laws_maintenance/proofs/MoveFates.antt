-- SPDX-License-Identifier: Apache-2.0
-- What the steps of a remaking keep: what is left of the old table, the new table, and what became of each key. Assumes nothing.
use Prim.Native.Nat.{ℕ, ◌<◌, ◌≤◌}
use native.Mathlib.Omega.{arith}
use mathlib.Core.Path.{◌≡◌, refl, sym, ap, ◌∙◌}
use mathlib.Core.Logic.{◌⊎◌, inl, inr}
use mathlib.Core.Bool.{true, false, false≢true}
use mathlib.Core.List.{List}
use lib.Dec.{eqb}
use lib.ListN.{length, get_or}
use borrow.Author.Tests.{eqb-true, eqb-false}
use Rattle.basics.specs.Numbers.{NONE}
use Rattle.basics.proofs.Tests.{yes!, no!, is}
use Rattle.eviction.specs.Victim.{unpinned}
use Rattle.state.specs.declared.State.{State}
use Rattle.state.specs.Slots.{slot_at, is_clean}
use Rattle.maintenance_resize.specs.Move.{Moving, moving_of}
use Rattle.laws_table.specs.Table.{Absent}
use Rattle.laws_maintenance.specs.Calm.{Present, Full}
use Rattle.laws_maintenance.specs.Drawn.{Drawn}
use Rattle.laws_maintenance.proofs.SlotLeaves.{Less}
use Rattle.laws_maintenance.proofs.Draws.{Over}

-- ── why a key is gone ──
-- the key of r is in the new table, or it waits
abbrev pub Left : State → Moving → ℕ → Type 0
Left t m r = Present m.new (slot_at t r).key ⊎ (is_clean (slot_at m.old r) ≡ true)

-- there were too many keys, and no unpinned key that is left was used before that of s; or its chain is full
pub data Reason (t : State) (pins : List ℕ) (m : Moving) (s : ℕ) : Type 0 where
  dropped! : m.new.capacity < t.clean → ((r : ℕ) → r < t.capacity → is_clean (slot_at t r) ≡ true → unpinned pins r ≡ true → Left t m r → (slot_at t s).last_access ≤ (slot_at t r).last_access) → Reason t pins m s
  choked! : Full m.new (slot_at t s).key → Reason t pins m s

-- it stays a reason where no key comes, and full chains stay full
pub reason_stays : {t : State} {pins : List ℕ} {m : Moving} {s : ℕ} (o n : State) (l : List ℕ) → n.capacity ≡ m.new.capacity → (Full m.new (slot_at t s).key → Full n (slot_at t s).key)
    → ((r : ℕ) → r < t.capacity → is_clean (slot_at t r) ≡ true → Left t (moving_of o n l) r → Left t m r) → Reason t pins m s → Reason t pins (moving_of o n l) s
reason_stays o n l same full left (dropped! many old) = dropped! (omega arith) (λ r hr cr ur k. old r hr cr ur (left r hr cr k))
reason_stays o n l same full left (choked! f) = choked! (full f)

-- ── what became of each key ──
-- the slot s of t was clean: it waits, which only slots from k on do; or its key went to the slot that the list gives; or its key is gone
pub data Fate (t : State) (pins : List ℕ) (k : ℕ) (m : Moving) (s : ℕ) : Type 0 where
  waits! : k ≤ s → slot_at m.old s ≡ slot_at t s → get_or m.list s NONE ≡ NONE → Fate t pins k m s
  went! : (p : Present m.new (slot_at t s).key) → get_or m.list s NONE ≡ p.slot → Fate t pins k m s
  gone! : is_clean (slot_at m.old s) ≡ false → get_or m.list s NONE ≡ NONE → Absent m.new (slot_at t s).key → Reason t pins m s → Fate t pins k m s

-- on the way from t, over the table n with the pinned keys
pub record Going (t : State) (pins : List ℕ) (n : State) (k : ℕ) (m : Moving) : Type 0 where
  pub old : Less t m.old
  pub new : Drawn t m.new
  pub over : Over n m.new
  pub size : length m.list ≡ t.capacity
  pub plain : (s : ℕ) → is_clean (slot_at t s) ≡ false → get_or m.list s NONE ≡ NONE
  pub fates : (s : ℕ) → s < t.capacity → is_clean (slot_at t s) ≡ true → Fate t pins k m s

-- one slot's part of the old table and of the list anew
pub turned : {t : State} {pins : List ℕ} {n : State} {k : ℕ} {m : Moving} (k' x : ℕ) (o : State) (l : List ℕ) → Going t pins n k m → Less t o
    → ((s : ℕ) → (s ≡ x → ⊥) → slot_at o s ≡ slot_at m.old s)
    → ((s : ℕ) → is_clean (slot_at o s) ≡ true → is_clean (slot_at m.old s) ≡ true)
    → length l ≡ length m.list
    → ((s : ℕ) → (s ≡ x → ⊥) → get_or l s NONE ≡ get_or m.list s NONE)
    → ((s : ℕ) → (s ≡ x → ⊥) → k ≤ s → k' ≤ s)
    → is_clean (slot_at t x) ≡ true → Fate t pins k' (moving_of o m.new l) x → Going t pins n k' (moving_of o m.new l)
turned {t} {m = m} k' x o l g lo slots clean size list waits cx fate =
    record {
      old = lo;
      new = g.new;
      over = g.over;
      size = size ∙ g.size;
      plain = λ s c. list s (λ e. false≢true (sym c ∙ ap (λ (y : ℕ). is_clean (slot_at t y)) e ∙ cx)) ∙ g.plain s c;
      fates = λ s hs c. elim (is (eqb s x)) [
        | yes! e ↦ rw (eqb-true s x e) fate
        | no! e ↦
            let ne = eqb-false s x e in
            elim (g.fates s hs c) [
              | waits! a b q ↦ waits! (waits s ne a) (slots s ne ∙ b) (list s ne ∙ q)
              | went! p q ↦ went! p (list s ne ∙ q)
              | gone! a b q y ↦ gone! (ap is_clean (slots s ne) ∙ a) (list s ne ∙ b) q (reason_stays o m.new l refl (λ f. f) (λ r hr cr k. elim k [ inl p ↦ inl p | inr w ↦ inr (clean r w) ]) y)
            ]
      ];
    }
