-- SPDX-License-Identifier: Apache-2.0
-- Document 02, request 7: reservations and keys are all accounted for over every list of calls, whatever their arguments. Assumes nothing.
use Prim.Native.Nat.{ℕ, ◌+◌, ◌-◌, ◌<◌, ◌≤◌}
use native.Mathlib.Omega.{arith}
use mathlib.Core.Path.{◌≡◌, refl, sym, ap, ◌∙◌}
use mathlib.Core.Bool.{Bool, true, false, false≢true}
use mathlib.Core.List.{List, [], ◌∷◌}
use lib.Dec.{leb, eqb}
use lib.ListN.{length, replicate}
use borrow.Author.Tests.{eqb-true, leb-true, ne_eqb}
use Rattle.basics.specs.Try.{Try, ok, refuse}
use Rattle.basics.specs.Answers.{Fine, done}
use Rattle.basics.specs.Refusals.{SLOT, UNCLEAN}
use Rattle.basics.specs.Lists.{keep}
use Rattle.basics.specs.Numbers.{NONE}
use Rattle.basics.proofs.Tests.{yes!, no!, is}
use Rattle.eviction.specs.Entries.{at}
use Rattle.key.specs.declared.CacheKey.{CacheKey}
use Rattle.state.specs.declared.State.{State}
use Rattle.state.specs.declared.LoadToken.{LoadToken}
use Rattle.state.specs.Slots.{slot_at, occupied}
use Rattle.state.specs.Answers.{Given, After, unless_refused}
use Rattle.state.specs.Fresh.{fresh}
use Rattle.state.specs.Access as TheAccess
use Rattle.state.specs.Tokens as TheTokens
use Rattle.state.specs.Lookup as TheLookup
use Rattle.state.specs.Remove as TheRemove
use Rattle.maintenance_resize.specs.Resize as TheResize
use Rattle.maintenance_reclaim.specs.Reclaim as TheReclaim
use Rattle.maintenance_reclaim.specs.Reclaim.{BATCH}
use Rattle.laws_table.specs.Table.{Inv, Valid}
use Rattle.laws_table.proofs.SlotKinds.{vacant_free, clean_occupied, loading_occupied}
use Rattle.laws_table.proofs.Stacks.{top_of}
use Rattle.laws_table.proofs.TableParts.{sound_inv}
use Rattle.laws_table.proofs.StepParts.{clean_pos, loading_pos}
use Rattle.laws_table.proofs.StepTokens.{outstanding_loads, publish_step, abort_step}
use Rattle.laws_table.proofs.StepLeave as leaving
use Rattle.laws_table.proofs.StepLeave.{Left, no_slot!, unclean!, left! }
use Rattle.laws_table.proofs.KeySearch.{absent!, waits!, hit!, spent!, sought}
use Rattle.laws_table.proofs.Misses.{Missed, barred!, full!, pinned!, takes!, evicts!, spent_generation!, spent_use!, missed}
use Rattle.laws_table.proofs.FreshTable.{fresh_valid}
use Rattle.laws_maintenance.specs.Resize as resizes
use Rattle.laws_maintenance.specs.Reclaim as reclaimings
use Rattle.laws_maintenance.proofs.Lists.{take_front}
use Rattle.laws_maintenance.proofs.ResizeLaw.{resize_law}
use Rattle.laws_maintenance.proofs.ReclaimLaw.{reclaim_law}
use Rattle.laws_maintenance.proofs.ReclaimedSlots as removed_slots
use Rattle.laws_maintenance.proofs.CalmTables.{fresh_none, fresh_calm}
use Rattle.ledger.specs.Calls.{accessed, published, aborted, looked, removed, detached, resized, reclaimed}
use Rattle.ledger.specs.Calls.{Call, Event, access, publish, abort, lookup, remove, detach, resize, reclaim, rules, event, after, run, log}
use Rattle.ledger.specs.Ledger.{Held, Ledger, begin, not_at, reserves, used_one, clean_one, not_key, uses, remakes}
use Rattle.ledger.specs.Ledger.{feed_access, feed_publish, feed_abort, feed_lookup, feed_remove, feed_resize, feed_reclaim, feed, feeds}
use Rattle.ledger.specs.Conservation.{reservations, publishes, aborts, evictions, removals, detachments, reclaims, drops, total, Conserved, Conservation}
use Rattle.ledger.proofs.Keys.Lists.{keep_all}
use Rattle.ledger.proofs.Keys.Slots.{not_in_held, not_at_lem, not_key_lem}
use Rattle.ledger.proofs.Keys.Changes.{by_used, used_slot, by_clean, clean_slot_lem}
use Rattle.ledger.proofs.Relation.Placed.{Placed, placed_same, placed_fresh, placed_map, placed_kept, placed_left, placed_new, placed_reclaimed, placed_moved, moved_count, placed_told}
use Rattle.ledger.proofs.StaysValid.{call_valid}

-- a call e from the table t to u, with the ledger l before it: what it counts is what the table's counts change by
pub record Even (t u : State) (l : Ledger) (e : Event) : Type 0 where
  pub placed : Placed u (feed l e).held
  pub loading : t.loading + reservations l e ≡ publishes l e + aborts l e + u.loading
  pub clean : t.clean + publishes l e ≡ u.clean + (evictions l e + removals l e + detachments l e + reclaims l e + drops l e)

module _ (t : State) (w : Valid t) (l : Ledger) (o : Placed t l.held) where
  abbrev v : Inv t
  v = w.0

  -- a key that loads in the slot
  abbrev load : CacheKey → ℕ → Held
  load key x = record { key = key; slot = x; clean = false; last = l.uses + 1 }

  -- a key used
  placed_uses : {u : State} → (key : CacheKey) → Placed u l.held → Placed u (uses l key).held
  unfolding uses
  placed_uses key p =
      placed_map (used_one key (l.uses + 1)) (used_slot key (l.uses + 1)) (λ h. by_used key (l.uses + 1) h (λ y. y.key ≡ h.key) (λ q. refl) (λ q. refl)) p

  -- a table that keeps its slots, counters and numbers aside, and an event that counts nothing and changes no key
  pub even_same : {u : State} {e : Event} → u.slots ≡ t.slots → u.capacity ≡ t.capacity → u.loading ≡ t.loading → u.clean ≡ t.clean → (feed l e).held ≡ l.held
      → reservations l e ≡ 0 → publishes l e ≡ 0 → aborts l e ≡ 0 → evictions l e + removals l e + detachments l e + reclaims l e + drops l e ≡ 0 → Even t u l e
  even_same es ec el en eh g p a s =
      record { placed = rw eh (placed_same es ec o); loading = omega (arith, el, g, p, a); clean = omega (arith, en, p, s) }

  miss_even : (key : CacheKey) (allow : Bool) (pins : List ℕ) (r : Try (After Given)) → Missed t v key allow pins r
      → Even t (unless_refused t r).table l (accessed key allow pins (unless_refused t r).answer)
  unfolding feed feed_access reserves TheAccess.capacity_busy occupied
  miss_even key allow pins r d =
      elim d [
        | barred! ea q ↦ rw q (even_same refl refl refl refl refl refl refl refl refl)
        | full! ea h q ↦ rw q (even_same refl refl refl refl refl refl refl refl refl)
        | pinned! ea room hv f q ↦ rw q (even_same refl refl refl refl refl refl refl refl refl)
        | takes! ea room hv ho u q p ↦
            let x = top_of t.index in
            let all : keep (not_in_held x) l.held ≡ l.held = keep_all (not_in_held x) l.held (λ h i. rw (ne_eqb h.slot x (λ z. false≢true (sym ho ∙ rw z at (o.held h i))))) in
            rw q (record { placed = rw all at (placed_new v o p (load key x) refl refl refl); loading = omega (arith, p.loading); clean = omega (arith, p.clean) })
        | evicts! ea room hv j hp hj f h ec u q p ↦
            let x = (at t.eviction j).slot in
            rw q (record {
              placed = rw (not_at_lem x l.held) (placed_new v o p (load key x) refl refl refl);
              loading = omega (arith, p.loading);
              clean = omega (arith, p.clean, clean_pos t v x p.low ec);
            })
        | spent_generation! m q ↦ rw q (even_same refl refl refl refl refl refl refl refl refl)
        | spent_use! m g q ↦ rw q (even_same refl refl refl refl refl refl refl refl refl)
      ]

  access_even : (key : CacheKey) (allow : Bool) (pins : List ℕ) → Even t (TheAccess.access t key allow pins).table l (accessed key allow pins (TheAccess.access t key allow pins).answer)
  unfolding TheAccess.access TheAccess.access_seen feed feed_access occupied
  access_even key allow pins =
      rw (sound_inv t v) (elim (is (eqb (length pins) t.capacity)) [
        | no! q ↦ rw q (even_same refl refl refl refl refl refl refl refl refl)
        | yes! q ↦ elim (sought t v key w.2) [
          | absent! n z ↦ rw (q, z) (miss_even key allow pins (TheAccess.miss t key allow pins) (missed t v key pins allow (eqb-true (length pins) t.capacity q)))
          | waits! x hx el ek z ↦ rw (q, z) (even_same refl refl refl refl refl refl refl refl refl)
          | hit! x ec ek u z p ↦ rw (q, z) (record {
            placed = placed_uses key (placed_kept v o p refl (clean_occupied (slot_at t x) ec) (sym ek));
            loading = omega (arith, p.loading);
            clean = omega (arith, p.clean);
          })
          | spent! m z ↦ rw (q, z) (even_same refl refl refl refl refl refl refl refl refl)
        ]
      ])

  lookup_even : (key : CacheKey) → Even t (TheLookup.lookup t key).table l (looked key (TheLookup.lookup t key).answer)
  unfolding TheLookup.lookup TheLookup.found_seen feed feed_lookup occupied
  lookup_even key =
      rw (sound_inv t v) (elim (sought t v key w.2) [
        | absent! n z ↦ rw z (even_same refl refl refl refl refl refl refl refl refl)
        | waits! x hx el ek z ↦ rw z (even_same refl refl refl refl refl refl refl refl refl)
        | hit! x ec ek u z p ↦ rw z (record {
          placed = placed_uses key (placed_kept v o p refl (clean_occupied (slot_at t x) ec) (sym ek));
          loading = omega (arith, p.loading);
          clean = omega (arith, p.clean);
        })
        | spent! m z ↦ rw z (even_same refl refl refl refl refl refl refl refl refl)
      ])

  publish_even : (k : LoadToken) → Even t (TheTokens.publish t k).table l (published k (TheTokens.publish t k).answer)
  unfolding TheTokens.publish feed feed_publish occupied
  publish_even k =
      elim (is (TheTokens.outstanding t k)) [
        | no! q ↦ rw (sound_inv t v, q) (even_same refl refl refl refl refl refl refl refl refl)
        | yes! q ↦ elim (is (leb k.access_sequence t.next_access_sequence)) [
          | no! z ↦ rw (sound_inv t v, q, z) (even_same refl refl refl refl refl refl refl refl refl)
          | yes! z ↦
              let d = outstanding_loads t k q in
              let (u, g, p) = publish_step t v k q (leb-true k.access_sequence t.next_access_sequence z) in
              rw g (record {
                placed = placed_map (clean_one k.key) (clean_slot_lem k.key) (λ h. by_clean k.key h (λ y. y.key ≡ h.key) refl refl)
                    (placed_kept v o p refl (loading_occupied (slot_at t k.slot) d.loading) (sym d.key));
                loading = omega (arith, p.loading, loading_pos t v k.slot d.low d.loading);
                clean = omega (arith, p.clean);
              })
        ]
      ]

  -- the key of the token's slot is the token's, and no other slot has it
  not_key_slot : (k : LoadToken) → k.slot < t.capacity → occupied (slot_at t k.slot) ≡ true → (slot_at t k.slot).key ≡ k.key → not_key k.key l.held ≡ keep (not_in_held k.slot) l.held
  not_key_slot k hk ho ek =
      not_key_lem l.held k.key k.slot (λ h i q. w.1 h.slot k.slot (o.low h i) hk (o.held h i) ho (o.key h i ∙ q ∙ sym ek))
      (λ h i z. sym (o.key h i) ∙ ap (λ (x : ℕ). (slot_at t x).key) z ∙ ek)

  abort_even : (k : LoadToken) → Even t (TheTokens.abort t k).table l (aborted k (TheTokens.abort t k).answer)
  unfolding TheTokens.abort feed feed_abort
  abort_even k =
      elim (is (TheTokens.outstanding t k)) [
        | no! q ↦ rw (sound_inv t v, q) (even_same refl refl refl refl refl refl refl refl refl)
        | yes! q ↦
            let d = outstanding_loads t k q in
            let (u, g, p) = abort_step t v k q in
            rw g (record {
              placed = rw (not_key_slot k d.low (loading_occupied (slot_at t k.slot) d.loading) d.key) (placed_left v o p vacant_free);
              loading = omega (arith, p.loading, loading_pos t v k.slot d.low d.loading);
              clean = omega (arith, p.clean);
            })
      ]

  -- a clean key leaves, by remove or by detach
  left_even : {x : ℕ} {r : After Fine} (e : Try Fine → Event) → Left t x r → ((n : ℕ) → Even t t l (e (refuse n)))
      → ((u : State) → Placed u (not_at (x ∷ []) l.held) → u.loading ≡ t.loading → u.clean + 1 ≡ t.clean → Even t u l (e (ok done))) → Even t r.table l (e r.answer)
  left_even {x} e d refused gone =
      elim d [
        | no_slot! h q ↦ rw q (refused SLOT)
        | unclean! h c q ↦ rw q (refused UNCLEAN)
        | left! c u q p ↦ rw q (gone u (rw (not_at_lem x l.held) (placed_left v o p vacant_free)) p.loading (omega (arith, p.clean, clean_pos t v x p.low c)))
      ]

  remove_even : (x : ℕ) → Even t (TheRemove.remove t x).table l (removed x (TheRemove.remove t x).answer)
  unfolding feed feed_remove
  remove_even x =
      left_even (removed x) (leaving.removed t v x) (λ n. even_same refl refl refl refl refl refl refl refl refl)
      (λ u w b c. record { placed = w; loading = omega (arith, b); clean = omega (arith, c) })

  detach_even : (x : ℕ) → Even t (TheRemove.detach t x).table l (detached x (TheRemove.detach t x).answer)
  unfolding feed feed_remove
  detach_even x =
      left_even (detached x) (leaving.detached t v x) (λ n. even_same refl refl refl refl refl refl refl refl refl)
      (λ u w b c. record { placed = w; loading = omega (arith, b); clean = omega (arith, c) })

  reclaim_even : (limit : ℕ) (pins : List ℕ) → (let r = TheReclaim.reclaim t limit pins in Even t r.table l (reclaimed limit pins r.answer r.count r.slots))
  unfolding feed feed_reclaim
  reclaim_even limit pins =
      elim (reclaim_law t v limit pins) [
        | reclaimings.refused! n q ↦ rw q (even_same refl refl refl refl refl refl refl refl refl)
        | reclaimings.reclaimed! u xs q rs end ↦
            let r = removed_slots.reclaimed v rs in
            rw q (record {
              placed = rw (take_front xs (replicate (BATCH - length xs) NONE)) (placed_reclaimed o r);
              loading = omega (arith, r.loading);
              clean = omega (arith, r.clean);
            })
      ]

  resize_even : (asked : ℕ) (pins list : List ℕ) → (let r = TheResize.resize t asked pins list in Even t r.table l (resized asked pins r.answer r.list))
  unfolding feed feed_resize remakes
  resize_even asked pins list =
      elim (resize_law t v w.1 asked pins list) [
        | resizes.refused! n q ne n7 ↦ rw q (even_same refl refl refl refl refl refl refl refl refl)
        | resizes.unchanged! q h ↦ rw q (even_same refl refl refl refl refl refl refl refl refl)
        | resizes.busy! q h ↦ rw q (even_same refl refl refl refl refl refl refl refl refl)
        | resizes.remade! m c ↦ rw (m.answer) (record {
          placed = placed_moved v w.1 o m;
          loading = omega (arith, m.quiet, m.calm.quiet);
          clean = omega (arith, moved_count v w.1 o m);
        })
      ]

  pub call_even : (c : Call) → Even t (after rules t c) l (event rules t c)
  unfolding after event
  call_even (access key allow pins) = access_even key allow pins
  call_even (publish k) = publish_even k
  call_even (abort k) = abort_even k
  call_even (lookup key) = lookup_even key
  call_even (remove slot) = remove_even slot
  call_even (detach slot) = detach_even slot
  call_even (resize asked pins list) = resize_even asked pins list
  call_even (reclaim limit pins) = reclaim_even limit pins

-- ── a list of calls ──
-- calls and answers es from the table t to u, with the ledger l before them
pub record Evens (t u : State) (l : Ledger) (es : List Event) : Type 0 where
  pub placed : Placed u (feeds l es).held
  pub loading : t.loading + total reservations l es ≡ total publishes l es + total aborts l es + u.loading
  pub clean :
      t.clean + total publishes l es
      ≡ u.clean + (total evictions l es + total removals l es + total detachments l es + total reclaims l es + total drops l es)

pub evens_none : (t : State) (l : Ledger) → Placed t l.held → Evens t t l []
unfolding total feeds
evens_none t l o = record { placed = o; loading = omega arith; clean = omega arith }

pub evens_more : {t s u : State} {l : Ledger} {e : Event} {es : List Event} → Even t s l e → Evens s u (feed l e) es → Evens t u l (e ∷ es)
unfolding total feeds
evens_more a b = record { placed = b.placed; loading = omega (arith, a.loading, b.loading); clean = omega (arith, a.clean, b.clean) }

run_evens : (t : State) → Valid t → (l : Ledger) → Placed t l.held → (cs : List Call) → Valid (run rules t cs) × Evens t (run rules t cs) l (log rules t cs)
unfolding run log
run_evens t w l o [] = (w, evens_none t l o)
run_evens t w l o (c ∷ cs) =
    let e = call_even t w l o c in
    let r = run_evens (after rules t c) (call_valid t w c).0 (feed l (event rules t c)) e.placed cs in
    (r.0, evens_more e r.1)

-- from a fresh table
pub evens_conserved : (c : ℕ) → 0 < c → c ≤ 256 → {u : State} {es : List Event} → Valid u → Evens (fresh c) u (begin c) es → Conserved u (begin c) es
evens_conserved c hp hs w e =
    record {
      outstanding = omega (arith, e.loading, (fresh_calm c hp hs).quiet, w.0.loading);
      clean = omega (arith, e.clean, fresh_none c, w.0.clean);
      told = placed_told e.placed;
    }

pub conservation : Conservation rules
unfolding begin
conservation c hp hs calls = let r = run_evens (fresh c) (fresh_valid c hp hs) (begin c) (placed_fresh c) calls in evens_conserved c hp hs r.0 r.1
