-- SPDX-License-Identifier: Apache-2.0
-- `candidate` of a table without a loading slot does not stop: it makes a table of the capacity with each pinned key once and no other, or none
-- where a chain refuses a pinned key; and that takes a smaller capacity. Assumes nothing.
use Prim.Native.Nat.{ℕ, suc, ◌+◌, ◌<◌, ◌≤◌}
use native.Mathlib.Omega.{arith}
use mathlib.Core.Path.{◌≡◌, sym, ap, ◌∙◌}
use mathlib.Core.Bool.{Bool, true, false, false≢true}
use mathlib.Core.List.{List}
use lib.Dec.{ltb, eqb}
use lib.ListN.{length}
use borrow.Author.Tests.{eqb-true, eqb-false, ltb-true, ltb-false}
use Rattle.basics.proofs.Tests.{yes!, no!, is}
use Rattle.eviction.specs.Victim.{unpinned}
use Rattle.state.specs.declared.State.{State}
use Rattle.state.specs.Slots.{slot_at, is_clean}
use Rattle.state.specs.Fresh.{fresh}
use Rattle.maintenance_restore.specs.Pins.{pin_count}
use Rattle.maintenance_restore.specs.Restore.{restore, candidate}
use Rattle.laws_table.specs.Table.{Absent}
use Rattle.laws_maintenance.specs.Calm.{Calm, Present}
use Rattle.laws_maintenance.specs.Drawn.{Drawn, Chokes}
use Rattle.laws_maintenance.proofs.PinBytes.{for_pins, OnClean, pins_fit}
use Rattle.laws_maintenance.proofs.CalmTables.{fresh_calm, fresh_capacity, fresh_unclean, fresh_absent}
use Rattle.laws_maintenance.proofs.Draws.{over_present, Draws, full!, no_slot!, draws!, draw}
use Rattle.laws_maintenance.proofs.ChainRoom.{long_full, not_full}
use Rattle.laws_maintenance.proofs.PinnedKeys.{Restoring, none!, some!, pinned_from, Counted, counted_skip, counted_more, counted_slot}
use Rattle.laws_maintenance.proofs.CandidateOnce.{counted_fresh, tried_once}

-- no unpinned key of t is in n
abbrev pub OnlyPinned : State → List ℕ → State → Type 0
OnlyPinned t pins n = (s : ℕ) → s < t.capacity → is_clean (slot_at t s) ≡ true → unpinned pins s ≡ true → Absent n (slot_at t s).key

-- the pinned keys before k are in n, of capacity c, and no other key is
pub record Pinning (t : State) (pins : List ℕ) (c k : ℕ) (n : State) : Type 0 where
  pub drawn : Drawn t n
  pub capacity : n.capacity ≡ c
  pub counted : Counted pins k n
  pub ahead : (s : ℕ) → k ≤ s → s < t.capacity → is_clean (slot_at t s) ≡ true → Absent n (slot_at t s).key
  pub behind : (s : ℕ) → s < k → unpinned pins s ≡ false → Present n (slot_at t s).key
  pub only : OnlyPinned t pins n

pinning_fresh : (t : State) (pins : List ℕ) (c : ℕ) → 0 < c → c ≤ 256 → pin_count pins ≤ c → Pinning t pins c 0 (fresh c)
pinning_fresh t pins c pos small fits =
    record {
      drawn = record { calm = fresh_calm c pos small; origin = λ x hx e. absurd (false≢true (sym (fresh_unclean c x) ∙ e)) };
      capacity = fresh_capacity c;
      counted = counted_fresh pins c pos small fits;
      ahead = λ s h hs e. fresh_absent c (slot_at t s).key;
      behind = λ s h e. absurd (omega arith);
      only = λ s hs a e. fresh_absent c (slot_at t s).key;
    }

module _ {t : State} {pins : List ℕ} {c k : ℕ} {n : State} (p : Pinning t pins c k n) (hk : k < length pins) where
  pinning_skip : unpinned pins k ≡ true → Pinning t pins c (k + 1) n
  pinning_skip e =
      record {
        drawn = p.drawn;
        capacity = p.capacity;
        counted = counted_skip p.counted hk e;
        ahead = λ s h. p.ahead s (omega arith);
        behind = λ s h q. elim (is (eqb s k)) [ yes! z ↦ absurd (false≢true (sym q ∙ rw (eqb-true s k z) e)) | no! z ↦ p.behind s (omega (arith, eqb-false s k z)) q ];
        only = p.only;
      }

  pinning_more : unpinned pins k ≡ false → {u : State} → Draws t n k u → Pinning t pins c (k + 1) u
  pinning_more e a =
      record {
        drawn = a.drawn;
        capacity = a.over.capacity ∙ p.capacity;
        counted = counted_more p.counted hk e a.drawn.calm.inv a.drawn.calm.quiet a.one a.over.capacity;
        ahead = λ s h hs cs. a.absent s hs cs (omega arith) (p.ahead s (omega arith) hs cs);
        behind = λ s h q. elim (is (eqb s k)) [ yes! z ↦ rw (eqb-true s k z) a.present | no! z ↦ over_present a.over (p.behind s (omega (arith, eqb-false s k z)) q) ];
        only = λ s hs cs q. a.absent s hs cs (λ z. false≢true (sym e ∙ ap (unpinned pins) (sym z) ∙ q)) (p.only s hs cs q);
      }

module _ (t : State) (w : Calm t) (pins : List ℕ) (len : length pins ≡ t.capacity) (on : OnClean t pins) (c : ℕ) where
  -- a refusal is a chain's
  pinning_take : (k : ℕ) (n : State) → k < t.capacity → unpinned pins k ≡ false → Pinning t pins c k n → Restoring (Chokes t pins c) (Pinning t pins c (k + 1)) (restore n (slot_at t k).key (slot_at t k).last_access)
  pinning_take k n hk e p =
      let absent = p.ahead k (omega arith) hk (on k hk e) in
      elim (draw t w n p.drawn k hk (on k hk e) absent) [
        | full! h z ↦ none! (record {
          table = n;
          drawn = p.drawn;
          capacity = p.capacity;
          slot = k;
          low = hk;
          pin = e;
          clean = on k hk e;
          absent = absent;
          full = long_full n p.drawn.calm.inv (slot_at t k).key h;
        }) z
        | no_slot! h z ↦ absurd (counted_slot p.counted (omega arith) e h)
        | draws! u z a ↦ some! u (pinning_more p (omega arith) e a) z
      ]

  -- a table of capacity c with the pinned keys, or none for a chain
  pub candidate_law : (shrinking : Bool) (left : ℕ) → 0 < c → c ≤ 256 → for_pins pins ≤ c → Restoring (Chokes t pins c) (Pinning t pins c t.capacity) (candidate (suc left) t pins shrinking c)
  candidate_law shrinking left pos small big =
      rw (tried_once t pins w.inv.small len shrinking c left pos small big)
      (pinned_from t pins t.capacity (Chokes t pins c) (Pinning t pins c) (λ k n hk e p. pinning_skip p (omega arith) e) pinning_take t.capacity 0 (fresh c) (omega arith)
      (pinning_fresh t pins c pos small (pins_fit pins c (omega (arith, w.inv.small)) big)))

-- a chain refuses a pinned key only where the table does not grow
pub choke_small : (t : State) → Calm t → (pins : List ℕ) (c : ℕ) → Chokes t pins c → c ≤ t.capacity
choke_small t w pins c h =
    elim (is (ltb t.capacity c)) [
      | no! e ↦ ltb-false t.capacity c e
      | yes! e ↦ absurd (not_full t w h.table h.drawn (omega (arith, ltb-true t.capacity c e, h.capacity)) h.slot h.low h.clean h.absent h.full)
    ]
