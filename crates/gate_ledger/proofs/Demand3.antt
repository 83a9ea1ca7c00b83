-- SPDX-License-Identifier: Apache-2.0
-- Demand 3 under the gate: each call is one of the plain claim's, with loading allowed where the gate admits it, or leaves table and keys alone; and
-- the ledger's pauses, dirty pages and mark are the gate's. Assumes nothing.
use Prim.Native.Nat.{ℕ}
use mathlib.Core.Path.{◌≡◌, refl, ap, ◌∙◌}
use mathlib.Core.Bool.{true, false}
use mathlib.Core.List.{List, [], ◌∷◌}
use lib.Dec.{ltb, eqb, T}
use lib.ListN.{length}
use borrow.Author.Tests.{ne_eqb}
use Rattle.basics.specs.Try.{ok, refuse}
use Rattle.basics.specs.Refusals.{EXHAUSTED}
use Rattle.basics.specs.Numbers.{MAX}
use Rattle.basics.proofs.Tests.{yes!, no!, is}
use Rattle.state.specs.declared.State.{State}
use Rattle.maintenance_resize.specs.Answers.{unchanged, busy_now, Resizing}
use Rattle.maintenance_resize.specs.Resize.{resize}
use Rattle.laws_maintenance.specs.Resize.{refused!, unchanged!, busy!, remade! }
use Rattle.laws_maintenance.proofs.ResizeLaw.{resize_law}
use Rattle.gate.specs.declared.Gate.{Gate}
use Rattle.gate.specs.Gate as gates
use Rattle.passage.specs.Access.{access_through}
use Rattle.passage.specs.Resize.{Passing, attempted, attempt_rule, pass_steps, resize_through}
use Rattle.ledger.specs.Calls as Plain
use Rattle.ledger.specs.Ledger as plain
use Rattle.ledger.specs.Expect.{resize_keeps}
use Rattle.ledger.proofs.Relation.Agree.{Agree, agree_fresh, agree_valid}
use Rattle.ledger.proofs.Calls.Resize.{keeps_same, resize_agrees}
use Rattle.ledger.proofs.Demand3.{call_agrees, agree_kept}
use Rattle.gate_ledger.specs.Calls.{Call, call, turn, rules, turn_gate, gate_after, Standing, start, fine, event, after, run, log}
use Rattle.gate_ledger.specs.Ledger.{Ledger, begin, stopped, loads, mark_after, feed_mark, feed, feeds}
use Rattle.gate_ledger.specs.Claim.{read_as, may_be, Allowed, Fair, FairAll, ledger_of, Told, Kept, Demand3Gated}
use Rattle.gate_ledger.proofs.Told.{turn_told, turn_keys, admits_told, loads_told, stops_told, out!, in!, input_law}

-- ── resize ──
-- what a resize through the gate owes the ledger
record Through (g : Gate) (l : Ledger) (pins : List ℕ) (p : Passing) : Type 0 where
  pub keeps : T (resize_keeps pins l.keys (plain.feed_resize l.keys p.resizing.answer p.resizing.list))
  pub agrees : Agree p.resizing.table (plain.feed_resize l.keys p.resizing.answer p.resizing.list)
  pub pauses : p.gate.pauses ≡ l.pauses
  pub dirty : p.gate.dirty ≡ l.dirty
  pub mark : p.gate.pending ≡ mark_after l p.resizing.answer
  pub may : T (may_be l p.resizing.answer)

module _ (t : State) (g : Gate) (l : Ledger) (a : Agree t l.keys) (w : Told g l) (asked : ℕ) (pins list : List ℕ) where
  -- an attempt
  tried : gates.stops g ≡ false → ltb 0 t.loading ≡ false → Through g l pins (attempt_rule t g asked pins list)
  unfolding attempt_rule attempted mark_after may_be
  tried clear quiet =
      let k = resize_agrees t l.keys a pins asked list in
      let s : stopped l ≡ false = stops_told g l w ∙ clear in
      let n : loads l.keys ≡ false = loads_told t l.keys a ∙ quiet in
      elim (resize_law t a.inv (agree_valid t l.keys a).1 asked pins list) [
        | refused! m e q q7 ↦
            let z : eqb m EXHAUSTED ≡ false = ne_eqb m EXHAUSTED q7 in
            let r : (resize t asked pins list).answer ≡ refuse m = ap (λ (x : Resizing). x.answer) e in
            record { keeps = k.keeps; agrees = k.agrees; pauses = rw r w.pauses; dirty = rw r w.dirty; mark = rw (r, z) w.pending; may = rw r tt }
        | unchanged! e q ↦
            let r : (resize t asked pins list).answer ≡ ok unchanged = ap (λ (x : Resizing). x.answer) e in
            record { keeps = k.keeps; agrees = k.agrees; pauses = rw r w.pauses; dirty = rw r w.dirty; mark = rw r; may = rw (r, s) tt }
        | busy! e q ↦
            let r : (resize t asked pins list).answer ≡ ok busy_now = ap (λ (x : Resizing). x.answer) e in
            record { keeps = k.keeps; agrees = k.agrees; pauses = rw r w.pauses; dirty = rw r w.dirty; mark = rw (r, s, n) w.pending; may = rw r tt }
        | remade! m c ↦
            record {
              keeps = k.keeps;
              agrees = k.agrees;
              pauses = rw m.answer w.pauses;
              dirty = rw m.answer w.dirty;
              mark = rw m.answer;
              may = rw (m.answer, s, n) tt;
            }
      ]

  same : T (resize_keeps pins l.keys l.keys)
  same = keeps_same pins l.keys

  steps : Through g l pins (pass_steps t g asked pins list)
  unfolding pass_steps mark_after may_be plain.feed_resize
  steps =
      elim (is (gates.stops g)) [
        | yes! e ↦
            let s : stopped l ≡ true = stops_told g l w ∙ e in
            rw e (record { keeps = same; agrees = a; pauses = w.pauses; dirty = w.dirty; mark = rw s w.pending; may = tt })
        | no! e ↦ let s : stopped l ≡ false = stops_told g l w ∙ e in elim (is (eqb asked t.capacity)) [
          | yes! f ↦ rw (e, f) (record { keeps = same; agrees = a; pauses = w.pauses; dirty = w.dirty; mark = refl; may = rw s tt })
          | no! f ↦ elim (is (ltb 0 t.loading)) [
            | yes! h ↦
                let n : loads l.keys ≡ true = loads_told t l.keys a ∙ h in
                rw (e, f, h) (record { keeps = same; agrees = a; pauses = w.pauses; dirty = w.dirty; mark = rw (s, n); may = tt })
            | no! h ↦ elim (is (eqb g.generation MAX)) [
              | yes! i ↦ rw (e, f, h, i) (record { keeps = same; agrees = a; pauses = w.pauses; dirty = w.dirty; mark = refl; may = tt })
              | no! i ↦ rw (e, f, h, i) (tried e h)
            ]
          ]
        ]
      ]

  through : Through g l pins (resize_through t g asked pins list)
  unfolding resize_through mark_after may_be plain.feed_resize
  through =
      elim (input_law t asked (length pins) (length list)) [
        | out! n e q z0 ↦
            let z : eqb n EXHAUSTED ≡ false = ne_eqb n EXHAUSTED q in
            rw e (record { keeps = same; agrees = a; pauses = w.pauses; dirty = w.dirty; mark = rw z w.pending; may = tt })
        | in! e ↦ rw e steps
      ]

-- ── one call ──
-- what is told of the gate does not hang on the keys
told_as : {g : Gate} {l : Ledger} {k : plain.Ledger} → Told g l → Told g (record { keys = k; pauses = l.pauses; dirty = l.dirty; pending = l.pending })
told_as w = record { pauses = w.pauses; dirty = w.dirty; pending = w.pending }

record Good (s : Standing) (l : Ledger) (c : Call) : Type 0 where
  pub allowed : Allowed l (event rules s c)
  pub agrees : Agree (after rules s c).table (feed l (event rules s c)).keys
  pub told : Told (after rules s c).gate (feed l (event rules s c))

good : (s : Standing) (l : Ledger) → Agree s.table l.keys → Told s.gate l → (c : Call) → Fair l (event rules s c) → Good s l c
unfolding event after feed feed_mark gate_after read_as access_through Plain.event Plain.after plain.feed
good s l a w (call (Plain.access key allow pins)) f =
    let k = call_agrees s.table l.keys a (Plain.access key (gates.admits s.gate allow) pins)
    (record { token = tt; uses = f.uses; generations = f.generations }) in
    record { allowed = rw (← admits_told s.gate l w allow) k.0; agrees = k.1; told = told_as w }
good s l a w (call (Plain.publish k)) f =
    let r = call_agrees s.table l.keys a (Plain.publish k) f in
    record { allowed = r.0; agrees = r.1; told = told_as w }
good s l a w (call (Plain.abort k)) f =
    let r = call_agrees s.table l.keys a (Plain.abort k) f in
    record { allowed = r.0; agrees = r.1; told = told_as w }
good s l a w (call (Plain.lookup key)) f =
    let r = call_agrees s.table l.keys a (Plain.lookup key) f in
    record { allowed = r.0; agrees = r.1; told = told_as w }
good s l a w (call (Plain.remove slot)) f =
    let r = call_agrees s.table l.keys a (Plain.remove slot) f in
    record { allowed = r.0; agrees = r.1; told = told_as w }
good s l a w (call (Plain.detach slot)) f =
    let r = call_agrees s.table l.keys a (Plain.detach slot) f in
    record { allowed = r.0; agrees = r.1; told = told_as w }
good s l a w (call (Plain.resize asked pins list)) f =
    let r = through s.table s.gate l a w asked pins list in
    record { allowed = r.keeps; agrees = r.agrees; told = record { pauses = r.pauses; dirty = r.dirty; pending = r.mark } }
good s l a w (call (Plain.reclaim limit pins)) f =
    let r = call_agrees s.table l.keys a (Plain.reclaim limit pins) f in
    record { allowed = r.0; agrees = r.1; told = told_as w }
good s l a w (turn k) f = let r = turn_told s.gate l w k in record { allowed = r.0; agrees = turn_keys l k (fine (turn_gate s.gate k)) a; told = r.1 }

-- ── a list of calls ──
record Stands (s : Standing) (l : Ledger) : Type 0 where
  pub agrees : Agree s.table l.keys
  pub told : Told s.gate l

stands : (s : Standing) (l : Ledger) → Stands s l → (cs : List Call) → FairAll l (log rules s cs) → Stands (run rules s cs) (feeds l (log rules s cs))
unfolding run log feeds
stands s l z [] f = z
stands s l z (c ∷ cs) f =
    let k = good s l z.agrees z.told c f.0 in
    stands (after rules s c) (feed l (event rules s c)) (record { agrees = k.agrees; told = k.told }) cs f.1

kept : (s : Standing) (l : Ledger) → Stands s l → Kept rules s l
unfolding access_through
kept s l z =
    let k = agree_kept s.table l.keys z.agrees in
    record {
      holds = k.holds;
      told = z.told;
      waits = λ asked pins list. (through s.table s.gate l z.agrees z.told asked pins list).may;
      next = λ c f. (good s l z.agrees z.told c f).allowed;
      oldest_goes = λ key allow pins y h e q u. k.oldest_goes key (gates.admits s.gate allow) pins y h e q u;
      good = k.good;
      spent = k.spent;
    }

pub demand3_gated : Demand3Gated rules
unfolding ledger_of begin gates.at_first
demand3_gated c hp hs calls f =
    kept (run rules (start c) calls) (feeds (begin c) (log rules (start c) calls))
    (stands (start c) (begin c) (record { agrees = agree_fresh c hp hs; told = record { pauses = refl; dirty = refl; pending = refl } }) calls f)
