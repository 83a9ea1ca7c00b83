-- SPDX-License-Identifier: Apache-2.0
-- Demand 3 fails of every machine of specs/Cheats.antt, each at a list of a few calls, but the last one where the counts are next to their
-- end; and what is accounted for fails of two of them. Assumes nothing.
use Rattle.std.proofs.Common.{if◌then◌else◌}
use Prim.Native.Nat.{ℕ, ◌+◌}
use native.Mathlib.Omega.{arith}
use mathlib.Core.Path.{◌≡◌, refl, sym, ap, ◌∙◌}
use mathlib.Core.Logic.{inl, inr}
use mathlib.Core.Bool.{true, false≢true}
use mathlib.Core.List.{List, [], ◌∷◌}
use lib.ListN.{replicate}
use Rattle.basics.specs.Try.{ok, refuse}
use Rattle.basics.specs.Refusals.{EXHAUSTED}
use Rattle.basics.specs.Numbers.{MAX}
use Rattle.basics.proofs.Tests.{yes!, no!, is}
use Rattle.state.specs.declared.State.{State}
use Rattle.state.specs.Answers.{Given, reserved, After}
use Rattle.state.specs.Fresh.{fresh}
use Rattle.ledger.specs.Calls.{Call, access, publish, abort, resize, reclaim, rules, run, log}
use Rattle.ledger.specs.Ledger.{Held, begin}
use Rattle.ledger.specs.Claim.{Shown, nothing, loads, keeps, Demand3}
use Rattle.ledger.specs.Conservation.{Conservation}
use Rattle.ledger.specs.Opened.{opened}
use Rattle.ledger.specs.Cheats.{busy_first, never_publishes, spares_oldest, untouched, refuses_all, ignores_pins, publishes_twice, over_reports}
use Rattle.ledger.specs.Cheats.{resize_ignores_pins, loses_growing, changes_last_use, begins_anew, evicts_pinned, refuses_early, gives_last}
use Rattle.ledger.proofs.Samples.Premises.{meets_all, fair_all}
use Rattle.ledger.proofs.Samples.Ends.{next_to_end}
use Rattle.ledger.proofs.Samples.Words.{key, token, word, slot_in, generation_in, word_fine}

-- "CapacityBusy before looking at stack or heap": the first access to a fresh table of 1 must reserve
pub no_busy_first : Demand3 busy_first → ⊥
unfolding opened meets_all
no_busy_first d =
    let kept = d 1 (omega arith) (omega arith) [] tt in
    let (slot, low, vacant, e) = kept.next (access (key 1) true (0 ∷ [])) (record { token = tt; uses = omega arith; generations = omega arith }) in
    let z : ◌≡◌ {A = ℕ} 4 2 = ap word e in omega arith

-- "every call refused": so it must
pub no_refuses_all : Demand3 refuses_all → ⊥
unfolding opened meets_all
no_refuses_all d =
    let kept = d 1 (omega arith) (omega arith) [] tt in
    let (slot, low, vacant, e) = kept.next (access (key 1) true (0 ∷ [])) (record { token = tt; uses = omega arith; generations = omega arith }) in
    let z : ◌≡◌ {A = ℕ} 5 2 = ap word e in omega arith

-- "publish that always gives 6": after a reservation its publish must succeed
pub no_never_publishes : Demand3 never_publishes → ⊥
unfolding opened meets_all
no_never_publishes d =
    let cs : List Call = access (key 1) true (0 ∷ []) ∷ [] in
    let kept = d 1 (omega arith) (omega arith) cs (fair_all (begin 1) (log never_publishes (fresh 1) cs) refl) in
    let z : ◌≡◌ {A = ℕ} 1 0 = ap word_fine (kept.good (token 0 1 1 1) tt).0 in omega arith

-- a token that was published must give 6
pub no_publishes_twice : Demand3 publishes_twice → ⊥
unfolding opened meets_all
no_publishes_twice d =
    let cs : List Call = access (key 1) true (0 ∷ []) ∷ publish (token 0 1 1 1) ∷ [] in
    let kept = d 1 (omega arith) (omega arith) cs (fair_all (begin 1) (log publishes_twice (fresh 1) cs) refl) in
    let z : ◌≡◌ {A = ℕ} 0 1 = ap word_fine (kept.spent (token 0 1 1 1) tt tt).0 in omega arith

-- a victim that is not the least recently used: of two clean keys, slot 0 is the older one, and slot 1 goes
pub no_spares_oldest : Demand3 spares_oldest → ⊥
unfolding opened meets_all
no_spares_oldest d =
    let pins : List ℕ = 0 ∷ 0 ∷ [] in
    let cs : List Call = access (key 1) true pins ∷ publish (token 0 1 1 1) ∷ access (key 2) true pins ∷ publish (token 1 2 2 2) ∷ [] in
    let kept = d 2 (omega arith) (omega arith) cs (fair_all (begin 2) (log spares_oldest (fresh 2) cs) refl) in
    let old : Held = record { key = key 1; slot = 0; clean = true; last = 1 } in
    let z : ◌≡◌ {A = ℕ} 1 0 = kept.oldest_goes (key 3) true pins (token 1 3 3 3) old refl refl tt in omega arith

-- the pins are not looked at: with the one clean key pinned the access must be CapacityBusy
pub no_ignores_pins : Demand3 ignores_pins → ⊥
unfolding opened meets_all
no_ignores_pins d =
    let cs : List Call = access (key 1) true (0 ∷ []) ∷ publish (token 0 1 1 1) ∷ [] in
    let kept = d 1 (omega arith) (omega arith) cs (fair_all (begin 1) (log ignores_pins (fresh 1) cs) refl) in
    let given = kept.next (access (key 2) true (1 ∷ [])) (record { token = tt; uses = omega arith; generations = omega arith }) in
    let z : ◌≡◌ {A = ℕ} 3 4 = ap word given in omega arith

-- ── tables ──
-- how many slots show a key
abbrev shows_one : Shown → ℕ
shows_one nothing = 0
shows_one (loads k) = 1
shows_one (keeps k n) = 1

-- the last use that a slot shows
abbrev last_one : Shown → ℕ
last_one nothing = 0
last_one (loads k) = 0
last_one (keeps k n) = n

-- the sum over the slots
unfoldable shown_sum : (Shown → ℕ) → List Shown → ℕ
shown_sum f [] = 0
shown_sum f (s ∷ ss) = f s + shown_sum f ss

-- "a table handed back untouched": after a reservation a slot must show its key
pub no_untouched : Demand3 untouched → ⊥
unfolding opened meets_all shown_sum
no_untouched d =
    let cs : List Call = access (key 1) true (0 ∷ []) ∷ [] in
    let kept = d 1 (omega arith) (omega arith) cs (fair_all (begin 1) (log untouched (fresh 1) cs) refl) in
    let z : ◌≡◌ {A = ℕ} 0 1 = ap (shown_sum shows_one) kept.holds.slots in omega arith

-- "reclaim that removes one slot and reports its limit": the other slot must show nothing
pub no_over_reports : Demand3 over_reports → ⊥
unfolding opened meets_all shown_sum
no_over_reports d =
    let pins : List ℕ = 0 ∷ 0 ∷ [] in
    let cs : List Call = access (key 1) true pins ∷ publish (token 0 1 1 1) ∷ access (key 2) true pins ∷ publish (token 1 2 2 2) ∷ reclaim 2 pins ∷ [] in
    let kept = d 2 (omega arith) (omega arith) cs (fair_all (begin 2) (log over_reports (fresh 2) cs) refl) in
    let z : ◌≡◌ {A = ℕ} 1 0 = ap (shown_sum shows_one) kept.holds.slots in omega arith

-- ── what is accounted for ──
-- a table handed back untouched: a reservation is outstanding, and no slot loads
pub no_untouched_accounts : Conservation untouched → ⊥
unfolding opened
no_untouched_accounts d = let z : ◌≡◌ {A = ℕ} 1 0 = (d 1 (omega arith) (omega arith) (access (key 1) true (0 ∷ []) ∷ [])).outstanding in omega arith

-- reclaim that removes one slot and reports its limit: one key was published, and two left
pub no_over_reports_accounts : Conservation over_reports → ⊥
unfolding opened
no_over_reports_accounts d =
    let cs : List Call = access (key 1) true (0 ∷ []) ∷ publish (token 0 1 1 1) ∷ reclaim 2 (0 ∷ []) ∷ [] in
    let z : ◌≡◌ {A = ℕ} 1 2 = (d 1 (omega arith) (omega arith) cs).clean in omega arith

-- ── over a resize ──
-- the pins are not looked at: of two clean keys the pinned one, slot 0, is the older, and leaves
pub no_resize_ignores_pins : Demand3 resize_ignores_pins → ⊥
unfolding opened meets_all
no_resize_ignores_pins d =
    let pins : List ℕ = 0 ∷ 0 ∷ [] in
    let cs : List Call = access (key 1) true pins ∷ publish (token 0 1 1 1) ∷ access (key 2) true pins ∷ publish (token 1 2 2 2) ∷ [] in
    let kept = d 2 (omega arith) (omega arith) cs (fair_all (begin 2) (log resize_ignores_pins (fresh 2) cs) refl) in
    kept.next (resize 1 (1 ∷ 0 ∷ []) (7 ∷ 7 ∷ [])) (record { token = tt; uses = omega arith; generations = omega arith })

-- a key is lost while growing: the one clean key must stay
pub no_loses_growing : Demand3 loses_growing → ⊥
unfolding opened meets_all
no_loses_growing d =
    let cs : List Call = access (key 1) true (0 ∷ []) ∷ publish (token 0 1 1 1) ∷ [] in
    let kept = d 1 (omega arith) (omega arith) cs (fair_all (begin 1) (log loses_growing (fresh 1) cs) refl) in
    kept.next (resize 2 (0 ∷ []) (7 ∷ [])) (record { token = tt; uses = omega arith; generations = omega arith })

-- a last use changes: the key must still show 1
pub no_changes_last_use : Demand3 changes_last_use → ⊥
unfolding opened meets_all shown_sum
no_changes_last_use d =
    let cs : List Call = access (key 1) true (0 ∷ []) ∷ publish (token 0 1 1 1) ∷ resize 2 (0 ∷ []) (7 ∷ []) ∷ [] in
    let kept = d 1 (omega arith) (omega arith) cs (fair_all (begin 1) (log changes_last_use (fresh 1) cs) refl) in
    let z : ◌≡◌ {A = ℕ} 0 1 = ap (shown_sum last_one) kept.holds.slots in omega arith

-- the numbers begin again: the second reservation, after the emptied table shrank, must have generation 2
pub no_begins_anew : Demand3 begins_anew → ⊥
unfolding opened meets_all
no_begins_anew d =
    let cs : List Call = access (key 1) true (0 ∷ 0 ∷ []) ∷ abort (token 0 1 1 1) ∷ resize 1 (0 ∷ 0 ∷ []) (7 ∷ 7 ∷ []) ∷ [] in
    let kept = d 2 (omega arith) (omega arith) cs (fair_all (begin 2) (log begins_anew (fresh 2) cs) refl) in
    let (slot, low, vacant, e) = kept.next (access (key 1) true (0 ∷ [])) (record { token = tt; uses = omega arith; generations = omega arith }) in
    let z : ◌≡◌ {A = ℕ} 1 2 = ap generation_in e in omega arith

-- ── an access ──
-- a pinned key is evicted while another is unpinned: of two clean keys slot 0 is the older and pinned, so slot 1 must go
pub no_evicts_pinned : Demand3 evicts_pinned → ⊥
unfolding opened meets_all
no_evicts_pinned d =
    let pins : List ℕ = 0 ∷ 0 ∷ [] in
    let cs : List Call = access (key 1) true pins ∷ publish (token 0 1 1 1) ∷ access (key 2) true pins ∷ publish (token 1 2 2 2) ∷ [] in
    let kept = d 2 (omega arith) (omega arith) cs (fair_all (begin 2) (log evicts_pinned (fresh 2) cs) refl) in
    elim (kept.next (access (key 3) true (1 ∷ 0 ∷ [])) (record { token = tt; uses = omega arith; generations = omega arith })) [
      | inl w ↦ let z : 0 ≡ w.0 = ap slot_in w.2 in rw (← z) at w.1
      | inr w ↦ w.0
    ]

-- ── 7 too early ──
early_stops : (t : State) (r : After Given) (slot : ℕ)
    → (if gives_last r.answer then record { table = t; answer = refuse EXHAUSTED } else r).answer ≡ ok (reserved (token slot MAX 1 MAX)) → ⊥
early_stops t r slot =
    elim (is (gives_last r.answer)) [
      | yes! q ↦ rw q (λ e. let z : ◌≡◌ {A = ℕ} 5 2 = ap word e in omega arith)
      | no! q ↦ rw q (λ e. false≢true (sym q ∙ ap gives_last e))
    ]

-- with both counts one below 2^64 − 1 an access must still reserve
pub no_refuses_early : Demand3 refuses_early → ⊥
no_refuses_early d =
    let e = next_to_end refuses_early d in
    let t : State = run refuses_early (fresh 256) e.calls in
    early_stops t (rules.access t (key 1) true (replicate 256 0)) e.slot e.answer
