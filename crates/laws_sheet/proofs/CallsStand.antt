-- SPDX-License-Identifier: Apache-2.0
-- What each call leaves of a table in order, and how it can answer. Assumes nothing.
use Rattle.std.proofs.Common.{Option as Maybe}
use Prim.Native.Nat.{ℕ, ◌+◌, ◌≤◌, ◌<◌}
use native.Mathlib.Omega.{arith}
use mathlib.Core.Path.{◌≡◌, refl, sym, ◌∙◌, subst}
use mathlib.Core.Bool.{Bool, true, false≢true}
use mathlib.Core.List.{List}
use lib.Dec.{ltb}
use lib.ListN.{length, set}
use borrow.Author.Tests.{eq-eqb, le-leb, ltb-true}
use Rattle.basics.specs.Try.{Try, ok, refuse}
use Rattle.basics.specs.Lists.{some?}
use Rattle.basics.specs.Numbers.{MAX}
use Rattle.basics.specs.Refusals.{SLOT, STALE, EXHAUSTED, UNCLEAN}
use Rattle.basics.proofs.Tests.{is, yes!, no! }
use Rattle.key.specs.declared.CacheKey.{CacheKey}
use Rattle.eviction.specs.Entries.{at}
use Rattle.eviction.specs.Victim.{unpinned}
use Rattle.state.specs.declared.State.{State}
use Rattle.state.specs.declared.LoadToken.{LoadToken}
use Rattle.state.specs.Slots.{slot_at, vacant_slot, clean_slot, loading_slot, is_clean}
use Rattle.state.specs.Answers.{Given, After, told, unless_refused}
use Rattle.state.specs.Access.{next_token, capacity_busy, miss, access_seen, access}
use Rattle.state.specs.Tokens.{outstanding, publish, abort}
use Rattle.state.specs.Lookup.{lookup}
use Rattle.state.specs.Remove.{need_clean, remove}
use Rattle.maintenance_reclaim.specs.Reclaim.{reclaim}
use Rattle.laws_table.specs.Table.{Valid, Kept, Absent}
use Rattle.laws_table.proofs.SlotKinds.{vacant_neither, loading_not_clean}
use Rattle.laws_table.proofs.Stacks.{top_of}
use Rattle.laws_table.proofs.TableParts.{sound_inv}
use Rattle.laws_table.proofs.StepTokens.{outstanding_loads, publish_step, abort_step}
use Rattle.laws_table.proofs.StepLeave.{no_slot!, unclean!, left!, removed}
use Rattle.laws_table.proofs.KeySearch.{absent!, waits!, hit!, spent!, sought}
use Rattle.laws_table.proofs.Misses.{Missed, barred!, full!, pinned!, takes!, evicts!, spent_generation!, spent_use!, missed}
use Rattle.laws_table.proofs.ValidSteps.{valid_vacant, valid_hit, valid_load}
use Rattle.laws_table.proofs.CallsKeep.{publish_keeps}
use Rattle.laws_maintenance.specs.Reclaim as reclaims
use Rattle.laws_maintenance.proofs.ReclaimLaw.{reclaim_law}
use Rattle.laws_maintenance.proofs.ReclaimedSlots.{reclaimed, removals_valid}
use Rattle.laws_sheet.specs.Orderly.{InOrder, Counted}
use Rattle.laws_sheet.specs.Places.{token_of, put_in}
use Rattle.laws_sheet.specs.Refusals.{refusable, spent_by}
use Rattle.laws_sheet.proofs.PinsStand.{pin_set, pin_off, token_put, slot_anew}

-- an answer, or a refusal that a record of the code can say
abbrev pub answerable : {A : Type 0} → Bool → ℕ → Try A → Bool
answerable spent code (ok a) = true
answerable spent code (refuse n) = refusable spent code n

-- what the record n of the code leaves of a table, of its pins and of its tokens
pub record Leaves {A : Type 0} (n code : ℕ) (pins : List ℕ) (places : List (Maybe LoadToken)) (r : After A) : Type 0 where
  pub order : InOrder r.table pins places
  pub counted : Counted (n + 1) r.table
  pub answer : answerable (spent_by n) code r.answer ≡ true

-- a number that is spent was spent by so many records
spent_now : (n m : ℕ) → m ≤ n → m ≡ MAX → spent_by n ≡ true
spent_now n m h e = le-leb MAX n (omega arith)

-- the table that a call left, where it was kept
told_valid : {A : Type 0} {r : After A} {u : State} {a : A} → r ≡ told u a → Kept r → Valid u
told_valid e h = subst (λ (x : After _). Valid x.table) e h.valid

-- a pin set at a slot by a call that was not refused
abbrev pub pins_after : {A : Type 0} → List ℕ → ℕ → ℕ → Try A → List ℕ
pins_after pins slot pin (ok a) = set pins slot pin
pins_after pins slot pin (refuse n) = pins

module _ (n : ℕ) (t : State) (pins : List ℕ) (places : List (Maybe LoadToken)) (g : InOrder t pins places) (k : Counted n t) where
  -- a call takes at most one number of each kind
  pub later : {u : State} → u.next_access_sequence ≤ t.next_access_sequence + 1 → u.next_load_generation ≤ t.next_load_generation + 1 → Counted (n + 1) u
  later a b = record { uses = omega (arith, k.uses); generations = omega (arith, k.generations) }

  pub same : Counted (n + 1) t
  same = later (omega arith) (omega arith)

  -- another table with the slots and the last use number of this one
  recounted : {u : State} → Valid u → u.slots ≡ t.slots → u.capacity ≡ t.capacity → u.next_access_sequence ≡ t.next_access_sequence → InOrder u pins places
  recounted w es ec eu =
      record { valid = w; size = g.size; bit = g.bit; low = λ x q. omega (arith, g.low x q); clean = λ x q. rw es (g.clean x q); given = λ x m q. omega (arith, g.given x m q) }

  -- a refusal leaves the table
  refused : {A : Type 0} (code m : ℕ) → refusable (spent_by n) code m ≡ true → Leaves {A = A} n code pins places (record { table = t; answer = refuse m })
  refused code m e = record { order = g; counted = same; answer = e }

  -- ── 2 and 9: the calls that are lent pins ──
  module _ (lent : List ℕ) (lp : length lent ≡ t.capacity) (lent_same : (x : ℕ) → x < t.capacity → unpinned lent x ≡ unpinned pins x) where
    miss_leaves : (place : ℕ) (key : CacheKey) (allow : Bool) → Absent t key → (r : Try (After Given)) → Missed t g.valid.0 key allow lent r → Leaves n 2 pins (put_in places place (token_of (unless_refused t r).answer)) (unless_refused t r)
    unfolding capacity_busy refusable some?
    miss_leaves place key allow a r d =
        let load = loading_slot key (t.next_load_generation + 1) in
        elim d [
          | barred! ea e ↦ rw e (record { order = recounted g.valid refl refl refl; counted = later (omega arith) (omega arith); answer = refl })
          | full! ea h e ↦ rw e (record { order = recounted g.valid refl refl refl; counted = later (omega arith) (omega arith); answer = refl })
          | pinned! ea room hv f e ↦ rw e (record { order = recounted g.valid refl refl refl; counted = later (omega arith) (omega arith); answer = refl })
          | takes! ea room hv ho u e p ↦
              let o = slot_anew t u pins places load g (valid_load t g.valid key (t.next_load_generation + 1) a p) p (omega arith) (λ q. absurd (false≢true (sym (vacant_neither (slot_at t (top_of t.index)) ho).1 ∙ g.clean (top_of t.index) q))) in
              rw e (record {
                order = token_put u pins places o place (next_token t key (top_of t.index)) (omega (arith, p.uses));
                counted = later (omega (arith, p.uses)) (omega (arith, p.generations));
                answer = refl;
              })
          | evicts! ea room hv j hp hj f h ec u e p ↦
              let o = slot_anew t u pins places load g (valid_load t g.valid key (t.next_load_generation + 1) a p) p (omega arith) (λ q. absurd (false≢true (sym q ∙ sym (lent_same (at t.eviction j).slot p.low) ∙ f))) in
              rw e (record {
                order = token_put u pins places o place (next_token t key (at t.eviction j).slot) (omega (arith, p.uses));
                counted = later (omega (arith, p.uses)) (omega (arith, p.generations));
                answer = refl;
              })
          | spent_generation! m e ↦ rw e (refused 2 EXHAUSTED (rw (spent_now n t.next_load_generation k.generations m)))
          | spent_use! m q e ↦ rw e (record { order = recounted g.valid refl refl refl; counted = later (omega arith) (omega arith); answer = rw (spent_now n t.next_access_sequence k.uses m) })
        ]

    pub access_leaves : (place : ℕ) (key : CacheKey) (allow : Bool) → Leaves n 2 pins (put_in places place (token_of (access t key allow lent).answer)) (access t key allow lent)
    unfolding access access_seen refusable some?
    access_leaves place key allow =
        rw (sound_inv t g.valid.0, eq-eqb (length lent) t.capacity lp) (elim (sought t g.valid.0 key g.valid.2) [
          | absent! a q ↦ rw q (miss_leaves place key allow a (miss t key allow lent) (missed t g.valid.0 key lent allow lp))
          | waits! x hx el ek q ↦ rw q (record { order = recounted g.valid refl refl refl; counted = later (omega arith) (omega arith); answer = refl })
          | hit! x ec ek u q p ↦
              rw q (record {
                order = slot_anew t u pins places (clean_slot key (t.next_access_sequence + 1)) g (valid_hit t g.valid key ec ek p) p (omega arith) (λ z. refl);
                counted = later (omega (arith, p.uses)) (omega (arith, p.generations));
                answer = refl;
              })
          | spent! m q ↦ rw q (refused 2 EXHAUSTED (rw (spent_now n t.next_access_sequence k.uses m)))
        ])

    -- no refusal of any code
    pub reclaim_leaves : (code limit : ℕ) → Leaves n code pins places (record { table = (reclaim t limit lent).table; answer = (reclaim t limit lent).answer })
    reclaim_leaves code limit =
        elim (reclaim_law t g.valid.0 limit lent) [
          | reclaims.refused! ne e ↦ absurd (ne lp)
          | reclaims.reclaimed! u xs e rs end ↦
              let r = reclaimed g.valid.0 rs in
              rw e (record {
                order = record {
                  valid = removals_valid g.valid rs;
                  size = g.size;
                  bit = g.bit;
                  low = λ x q. omega (arith, g.low x q, r.capacity);
                  clean = λ x q. rw (r.stays x (λ m. false≢true (sym q ∙ sym (lent_same x (g.low x q)) ∙ r.free x m))) (g.clean x q);
                  given = λ x m q. omega (arith, g.given x m q, r.uses);
                };
                counted = later (omega (arith, r.uses)) (omega (arith, r.generations));
                answer = refl;
              })
        ]

  -- ── 3 and 4 ──
  pub publish_leaves : (token : LoadToken) → token.access_sequence ≤ t.next_access_sequence → Leaves n 3 pins places (publish t token)
  unfolding publish refusable some?
  publish_leaves token h =
      elim (is (outstanding t token)) [
        | no! e ↦ rw (sound_inv t g.valid.0, e) (refused 3 STALE refl)
        | yes! e ↦
            let (u, z, p) = publish_step t g.valid.0 token e h in
            rw z (record {
              order = slot_anew t u pins places (clean_slot token.key token.access_sequence) g (told_valid z (publish_keeps t g.valid token)) p (omega arith) (λ c. refl);
              counted = later (omega (arith, p.uses)) (omega (arith, p.generations));
              answer = refl;
            })
      ]

  pub abort_leaves : (token : LoadToken) → Leaves n 4 pins places (abort t token)
  unfolding abort refusable some?
  abort_leaves token =
      elim (is (outstanding t token)) [
        | no! e ↦ rw (sound_inv t g.valid.0, e) (refused 4 STALE refl)
        | yes! e ↦
            let (u, z, p) = abort_step t g.valid.0 token e in
            let waits = loading_not_clean (slot_at t token.slot) (outstanding_loads t token e).loading in
            rw z (record {
              order = slot_anew t u pins places vacant_slot g (valid_vacant t g.valid p) p (omega arith) (λ q. absurd (false≢true (sym waits ∙ g.clean token.slot q)));
              counted = later (omega (arith, p.uses)) (omega (arith, p.generations));
              answer = refl;
            })
      ]

  -- ── 5 ──
  pub lookup_leaves : (key : CacheKey) → Leaves n 5 pins places (lookup t key)
  unfolding lookup refusable some?
  lookup_leaves key =
      rw (sound_inv t g.valid.0) (elim (sought t g.valid.0 key g.valid.2) [
        | absent! a e ↦ rw e (record { order = g; counted = same; answer = refl })
        | waits! x hx el ek e ↦ rw e (record { order = recounted g.valid refl refl refl; counted = later (omega arith) (omega arith); answer = refl })
        | hit! x ec ek u e p ↦
            rw e (record {
              order = slot_anew t u pins places (clean_slot key (t.next_access_sequence + 1)) g (valid_hit t g.valid key ec ek p) p (omega arith) (λ z. refl);
              counted = later (omega (arith, p.uses)) (omega (arith, p.generations));
              answer = refl;
            })
        | spent! m e ↦ rw e (refused 5 EXHAUSTED (rw (spent_now n t.next_access_sequence k.uses m)))
      ])

  -- ── 6 and 7 ──
  pub remove_leaves : (x : ℕ) → Leaves n 6 (pins_after pins x 0 (remove t x).answer) places (remove t x)
  unfolding refusable some?
  remove_leaves x =
      elim (removed t g.valid.0 x) [
        | no_slot! h e ↦ rw e (refused 6 SLOT refl)
        | unclean! h q e ↦ rw e (refused 6 UNCLEAN refl)
        | left! q u e p ↦
            rw e (record {
              order = slot_anew t u (set pins x 0) places vacant_slot (pin_set t pins places g x 0 p.low (omega arith) q) (valid_vacant t g.valid p) p (omega arith) (λ z. absurd (false≢true (sym z ∙ pin_off t pins places g x p.low)));
              counted = later (omega (arith, p.uses)) (omega (arith, p.generations));
              answer = refl;
            })
      ]

  pub pin_leaves : (x pin : ℕ) → pin ≤ 1 → Leaves n 7 (pins_after pins x pin (need_clean t x)) places (record { table = t; answer = need_clean t x })
  unfolding need_clean refusable some?
  pin_leaves x pin small =
      rw (sound_inv t g.valid.0) (elim (is (ltb x t.capacity)) [
        | no! e ↦ rw e (refused 7 SLOT refl)
        | yes! e ↦ elim (is (is_clean (slot_at t x))) [
          | no! q ↦ rw (e, q) (refused 7 UNCLEAN refl)
          | yes! q ↦ rw (e, q) (record { order = pin_set t pins places g x pin (ltb-true x t.capacity e) small q; counted = same; answer = refl })
        ]
      ])
