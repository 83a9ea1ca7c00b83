-- SPDX-License-Identifier: Apache-2.0
-- Access: the answer is what the ledger gives, or among those that it leaves open, and table and ledger agree after; and the key that goes is
-- the least recently used one, if it is unpinned. Assumes nothing.
use Prim.Native.Nat.{ℕ, ◌<◌}
use native.Mathlib.Omega.{arith}
use mathlib.Core.Path.{◌≡◌, refl, sym, ap, ◌∙◌}
use mathlib.Core.Bool.{Bool, true}
use mathlib.Core.List.{List}
use mathlib.Core.Option.{Option, none, some}
use lib.Dec.{eqb, T}
use lib.ListN.{length}
use borrow.Author.Tests.{eqb-true, eqb-false}
use Rattle.basics.specs.Try.{Try, ok, refuse}
use Rattle.basics.specs.Numbers.{MAX}
use Rattle.basics.specs.Members.{In}
use Rattle.basics.proofs.Tests.{yes!, no!, is, some_same, none_some}
use Rattle.key.specs.declared.CacheKey.{CacheKey}
use Rattle.eviction.specs.Entries.{at}
use Rattle.state.specs.declared.State.{State}
use Rattle.state.specs.declared.LoadToken.{LoadToken}
use Rattle.state.specs.Slots.{slot_at}
use Rattle.state.specs.Answers.{Given, hit, in_progress, reserved, evicted, busy, After, unless_refused}
use Rattle.state.specs.Access as rules
use Rattle.laws_table.proofs.SlotKinds.{clean_not_loading, vacant_neither}
use Rattle.laws_table.proofs.TableParts.{sound_inv}
use Rattle.laws_table.proofs.KeySearch.{absent!, waits!, hit!, spent!, sought}
use Rattle.laws_table.proofs.Misses.{Missed, barred!, full!, pinned!, takes!, evicts!, spent_generation!, spent_use!, missed}
use Rattle.ledger.specs.Ledger.{Held, Ledger, feed_access}
use Rattle.ledger.specs.Expect.{unpinned, clean_ones, oldest, expect}
use Rattle.ledger.specs.Claim.{Gives}
use Rattle.ledger.proofs.Keys.Lists.{T_true}
use Rattle.ledger.proofs.Relation.Agree.{Agree, absent_key, bare_at, clean_in, loading_in, agree_dated}
use Rattle.ledger.proofs.Relation.Steps.{agree_used, agree_evicted, agree_taken}
use Rattle.ledger.proofs.Relation.Places.{no_one, eldest, oldest_is}
use Rattle.ledger.proofs.Calls.Lookup.{agree_counters}
use Rattle.ledger.proofs.Calls.Expected.{expect_pins, expect_held, expect_barred, expect_full, gives_vacant, first_unpinned, gives_victim, gives_busy}

-- an answer that the ledger allows, with a table that agrees with it after
pub record Good (l : Ledger) (key : CacheKey) (allow : Bool) (pins : List ℕ) (r : After Given) : Type 0 where
  pub gives : Gives l key pins (expect l key allow pins) r.answer
  pub agrees : Agree r.table (feed_access l key r.answer)

-- the slot of the key that went
abbrev gone : Try Given → Option ℕ
gone (ok (hit slot)) = none
gone (ok in_progress) = none
gone (ok (reserved k)) = none
gone (ok (evicted k)) = some k.slot
gone (ok busy) = none
gone (refuse n) = none

module _ (t : State) (l : Ledger) (a : Agree t l) (key : CacheKey) (allow : Bool) (pins : List ℕ) where
  -- ── a miss ──
  miss_good : length pins ≡ t.capacity → ((h : Held) → In h l.held → h.key ≡ key → ⊥) → l.uses < MAX → l.generations < MAX → (r : Try (After Given)) → Missed t a.inv key allow pins r → Good l key allow pins (unless_refused t r)
  unfolding feed_access rules.capacity_busy
  miss_good lp out hu hg r d =
      elim d [
        | barred! ea e ↦ rw e (record { gives = rw (expect_barred t l a key allow pins lp out ea) refl; agrees = agree_counters _ a })
        | full! ea h e ↦ rw e (record { gives = rw (expect_full t l a key allow pins lp out ea h) refl; agrees = agree_counters _ a })
        | pinned! ea room hv n e ↦ rw e (record { gives = gives_busy t l a key allow pins lp out ea room hv n; agrees = agree_counters _ a })
        | takes! ea room hv ho u e p ↦ rw e (record {
          gives = gives_vacant t l a key allow pins lp out ea room hv _ p.low ho;
          agrees = agree_taken a key out (vacant_neither (slot_at t _) ho).0 p (bare_at t l a _ p.low ho);
        })
        | evicts! ea room hv j hp hj f n ec u e p ↦ rw e (record {
          gives = gives_victim t l a key allow pins lp out ea room hv j hj f n;
          agrees = agree_evicted a key out (clean_not_loading (slot_at t (at t.eviction j).slot) ec) p;
        })
        | spent_generation! m e ↦ absurd (omega (arith, a.generations))
        | spent_use! m g e ↦ absurd (omega (arith, a.uses))
      ]

  -- ── the call ──
  pub access_good : l.uses < MAX → l.generations < MAX → Good l key allow pins (rules.access t key allow pins)
  unfolding rules.access rules.access_seen feed_access
  access_good hu hg =
      rw (sound_inv t a.inv) (elim (is (eqb (length pins) t.capacity)) [
        | no! e ↦ rw e (record { gives = rw (expect_pins t l a key allow pins (eqb-false (length pins) t.capacity e)) refl; agrees = a })
        | yes! e ↦
            let lp : length pins ≡ t.capacity = eqb-true (length pins) t.capacity e in
            elim (sought t a.inv key (agree_dated t l a)) [
              | absent! n q ↦ rw (e, q) (miss_good lp (absent_key t l a key n) hu hg (rules.miss t key allow pins) (missed t a.inv key pins allow lp))
              | waits! x hx el ek q ↦
                  let (h, i, b, d) = loading_in t l a x hx el in
                  rw (e, q) (record { gives = rw (expect_held t l a key allow pins lp h i (sym d ∙ ek), b) refl; agrees = agree_counters _ a })
              | hit! x ec ek u q p ↦
                  let w = clean_in t l a x p.low ec in
                  rw (e, q) (record { gives = rw (expect_held t l a key allow pins lp w.held w.member (sym w.key ∙ ek), w.clean, w.slot) refl; agrees = agree_used a key ec ek p })
              | spent! m q ↦ absurd (omega (arith, a.uses))
            ]
      ])

  -- ── the key that goes, whatever the counts ──
  module _ (h : Held) (eo : oldest (clean_ones l) ≡ some h) (eu : unpinned pins h ≡ true) (s : ℕ) where
    miss_oldest : (r : Try (After Given)) → Missed t a.inv key allow pins r → gone (unless_refused t r).answer ≡ some s → s ≡ h.slot
    unfolding rules.capacity_busy
    miss_oldest r d =
        elim d [
          | barred! ea e ↦ rw e (λ q. absurd (none_some q))
          | full! ea x e ↦ rw e (λ q. absurd (none_some q))
          | pinned! ea room hv n e ↦ rw e (λ q. absurd (none_some q))
          | takes! ea room hv ho u e p ↦ rw e (λ q. absurd (none_some q))
          | evicts! ea room hv j hp hj f n ec u e p ↦ rw e (λ q. sym (some_same q) ∙ elim (oldest_is (clean_ones l)) [
            | no_one z y ↦ absurd (none_some (sym z ∙ eo))
            | eldest o z i le ↦
                let oh : o ≡ h = some_same (sym z ∙ eo) in
                first_unpinned t l a key allow pins j n o i le (ap (unpinned pins) oh ∙ eu) ∙ ap (λ (y : Held). y.slot) oh
          ])
          | spent_generation! m e ↦ rw e (λ q. absurd (none_some q))
          | spent_use! m g e ↦ rw e (λ q. absurd (none_some q))
        ]

    access_oldest : gone (rules.access t key allow pins).answer ≡ some s → s ≡ h.slot
    unfolding rules.access rules.access_seen
    access_oldest =
        rw (sound_inv t a.inv) (elim (is (eqb (length pins) t.capacity)) [
          | no! e ↦ rw e (λ q. absurd (none_some q))
          | yes! e ↦ elim (sought t a.inv key (agree_dated t l a)) [
            | absent! n q ↦ rw (e, q) (miss_oldest (rules.miss t key allow pins) (missed t a.inv key pins allow (eqb-true (length pins) t.capacity e)))
            | waits! x hx el ek q ↦ rw (e, q) (λ z. absurd (none_some z))
            | hit! x ec ek u q p ↦ rw (e, q) (λ z. absurd (none_some z))
            | spent! m q ↦ rw (e, q) (λ z. absurd (none_some z))
          ]
        ])

  -- an access that evicts takes the least recently used clean key if it is unpinned
  pub oldest_goes : (k : LoadToken) (h : Held) → (rules.access t key allow pins).answer ≡ ok (evicted k) → oldest (clean_ones l) ≡ some h → T (unpinned pins h) → k.slot ≡ h.slot
  oldest_goes k h e q u = access_oldest h q (T_true (unpinned pins h) u) k.slot (ap gone e)
