-- SPDX-License-Identifier: Apache-2.0
-- Reservations and keys are all accounted for under the gate too: each of the eight calls by the plain law, with loading allowed where the gate admits it;
-- resize by the same, or with table and list as they were; a turn of the gate has no part in it. Assumes nothing.
use Prim.Native.Nat.{ℕ}
use mathlib.Core.Path.{refl}
use mathlib.Core.List.{List, [], ◌∷◌}
use Rattle.basics.specs.Try.{Try, ok, refuse}
use Rattle.state.specs.declared.State.{State}
use Rattle.maintenance_resize.specs.Answers.{Size, unchanged, busy_now, resized}
use Rattle.laws_table.specs.Table.{Valid}
use Rattle.laws_table.proofs.FreshTable.{fresh_valid}
use Rattle.gate.specs.declared.Gate.{Gate}
use Rattle.gate.specs.Gate as gates
use Rattle.passage.specs.Access.{access_through}
use Rattle.passage.specs.Resize.{resize_through}
use Rattle.ledger.specs.Calls as Plain
use Rattle.ledger.specs.Ledger.{Ledger, begin, feed_resize, feed}
use Rattle.ledger.proofs.Relation.Placed.{Placed, placed_fresh}
use Rattle.ledger.proofs.Conservation.{Even, call_even, even_same, Evens, evens_none, evens_more, evens_conserved}
use Rattle.gate_ledger.specs.Calls.{Call, call, turn, rules, Standing, start, event, after, run, log}
use Rattle.gate_ledger.specs.Conservation.{of_the_eight, ConservationGated}
use Rattle.gate_ledger.proofs.StaysValid.{gated_valid}
use Rattle.gate_ledger.proofs.Through.{Keeps, stays!, resizes!, through_law}

module _ (t : State) (w : Valid t) (l : Ledger) (o : Placed t l.held) (asked : ℕ) (pins list : List ℕ) where
  -- a resize that makes no table
  kept_even : (a : Try Size) → Keeps a → Even t t l (Plain.resized asked pins a list)
  unfolding feed feed_resize
  kept_even (ok unchanged) k = even_same t w l o refl refl refl refl refl refl refl refl refl
  kept_even (ok busy_now) k = even_same t w l o refl refl refl refl refl refl refl refl refl
  kept_even (ok (resized c)) k = absurd k
  kept_even (refuse n) k = even_same t w l o refl refl refl refl refl refl refl refl refl

  through_even : (g : Gate) → (let r = (resize_through t g asked pins list).resizing in Even t r.table l (Plain.resized asked pins r.answer r.list))
  unfolding Plain.event Plain.after
  through_even g =
      elim (through_law t g asked pins list) [
        | stays! a e k s ↦ rw e (kept_even a k)
        | resizes! e ↦ rw e (call_even t w l o (Plain.resize asked pins list))
      ]

-- ── one call of the eight ──
called_even : (s : Standing) → Valid s.table → (l : Ledger) → Placed s.table l.held → (c : Plain.Call)
    → Even s.table (after rules s (call c)).table l (Plain.event (rules.through s.gate) s.table c)
unfolding after access_through Plain.event Plain.after feed
called_even s w l o (Plain.access key allow pins) =
    let e = call_even s.table w l o (Plain.access key (gates.admits s.gate allow) pins) in
    record { placed = e.placed; loading = e.loading; clean = e.clean }
called_even s w l o (Plain.publish k) = call_even s.table w l o (Plain.publish k)
called_even s w l o (Plain.abort k) = call_even s.table w l o (Plain.abort k)
called_even s w l o (Plain.lookup key) = call_even s.table w l o (Plain.lookup key)
called_even s w l o (Plain.remove slot) = call_even s.table w l o (Plain.remove slot)
called_even s w l o (Plain.detach slot) = call_even s.table w l o (Plain.detach slot)
called_even s w l o (Plain.resize asked pins list) = through_even s.table w l o asked pins list s.gate
called_even s w l o (Plain.reclaim limit pins) = call_even s.table w l o (Plain.reclaim limit pins)

-- ── a list of calls ──
run_evens : (s : Standing) → Valid s.table → (l : Ledger) → Placed s.table l.held → (cs : List Call)
    → Valid (run rules s cs).table × Evens s.table (run rules s cs).table l (of_the_eight (log rules s cs))
unfolding run log event after of_the_eight
run_evens s w l o [] = (w, evens_none s.table l o)
run_evens s w l o (call c ∷ cs) =
    let e = called_even s w l o c in
    let r = run_evens (after rules s (call c)) (gated_valid s w (call c)).0 (feed l (Plain.event (rules.through s.gate) s.table c)) e.placed cs in
    (r.0, evens_more e r.1)
run_evens s w l o (turn k ∷ cs) = run_evens (after rules s (turn k)) w l o cs

pub conservation_gated : ConservationGated rules
unfolding begin
conservation_gated c hp hs calls =
    let r = run_evens (start c) (fresh_valid c hp hs) (begin c) (placed_fresh c) calls in evens_conserved c hp hs r.0 r.1
