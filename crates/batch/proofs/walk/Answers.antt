-- SPDX-License-Identifier: Apache-2.0
-- `walk` meets its contract: at the end of the chain, at a stop, at a slot, and where no key is sought. Assumes nothing.
use Rattle.std.specs.Prelude.{Result, Ok, Err, IfOk}
use Prim.Native.Nat.{ℕ, ◌-◌, ◌<◌}
use native.Mathlib.Omega.{arith}
use mathlib.Core.Path.{◌≡◌, sym, ap, ◌∙◌}
use lib.ListN.{get_or}
use Rattle.basics.specs.Try.{ok, refuse}
use Rattle.basics.specs.Refusals.{STOP}
use Rattle.index.specs.Chain.{CHAIN, length_of}
use Rattle.batch.specs.Batch.{end_of_chain, visit_from}
use Rattle.batch.specs.Parts.{marked, mark_at, asked_at, visited_more}
use Rattle.batch.proofs.Marks.{some_marked, none_marked}
use Rattle.batch.proofs.Visits.{visit_found, visit_end, visit_spent, visit_astray, answer_at_end, walk_on, answer_on, unanswered_on}
use Rattle.batch.proofs.walk.Goals as goal
use Rattle.batch.proofs.walk.Goals.{then-visited-eq-MAX_CHAIN-via-then-visited-eq-MAX_CHAIN, then-visited-eq-MAX_CHAIN-via-else-visited-eq-MAX_CHAIN+then-t-slot}

-- a fact of what a call leaves, whatever it answers
ok_whatever : {A E P : Type 0} (r : Result A E) → P → IfOk r (λ _. P)
ok_whatever (Ok a) p = p
ok_whatever (Err why) p = tt

pub returns-then-slot-eq-NO_SLOT-clause-visits : goal.returns-then-slot-eq-NO_SLOT-clause-visits
returns-then-slot-eq-NO_SLOT-clause-visits c =
    let i = c.loop-sought.invariant in
    let kept : ℕ = length_of c.args.t.now.index (asked_at c.args.keys.now c.args.first) in
    let keys = marked c.loop-sought.sought c.args.keys.now in
    let left : ℕ = CHAIN - c.loop-sought.visited in
    let some = some_marked c.loop-sought.sought c.args.keys.now (omega arith) c.contains.ensures.value c.loop-sought-test.true in
    let ends : visit_from left c.args.t.now kept keys c.loop-sought.slot ≡ end_of_chain kept left =
    rw c.if-slot-eq-NO_SLOT.true (visit_end c.args.t.now kept keys left some) in
    c.end_of_chain.ensures ∙ sym (i.visits ∙ ap (visited_more c.loop-sought.visited) ends)

pub returns-then-slot-eq-NO_SLOT-clause-slots : goal.returns-then-slot-eq-NO_SLOT-clause-slots
returns-then-slot-eq-NO_SLOT-clause-slots c =
    let i = c.loop-sought.invariant in
    ok_whatever c.end_of_chain.result (λ p l.
    sym (i.places p l ∙ answer_at_end (CHAIN - c.loop-sought.visited) c.args.t.now (asked_at c.args.keys.now p) c.loop-sought.slot (mark_at c.loop-sought.sought p)
    (get_or c.loop-sought.slots p 0) c.requires.small c.if-slot-eq-NO_SLOT.true (i.unanswered p l)))

pub returns-then-visited-eq-MAX_CHAIN-clause-visits : goal.returns-then-visited-eq-MAX_CHAIN-clause-visits
returns-then-visited-eq-MAX_CHAIN-clause-visits c =
    let i = c.loop-sought.invariant in
    let kept : ℕ = length_of c.args.t.now.index (asked_at c.args.keys.now c.args.first) in
    let keys = marked c.loop-sought.sought c.args.keys.now in
    let left : ℕ = CHAIN - c.loop-sought.visited in
    let slot : ℕ = c.loop-sought.slot in
    let some = some_marked c.loop-sought.sought c.args.keys.now (omega arith) c.contains.ensures.value c.loop-sought-test.true in
    let stops : visit_from left c.args.t.now kept keys slot ≡ refuse STOP =
    elim c.then-visited-eq-MAX_CHAIN.branch [
      | then-visited-eq-MAX_CHAIN-via-then-visited-eq-MAX_CHAIN w ↦
          visit_spent c.args.t.now kept keys left slot some c.if-slot-eq-NO_SLOT.false (omega (arith, w.if-visited-eq-MAX_CHAIN.true))
      | then-visited-eq-MAX_CHAIN-via-else-visited-eq-MAX_CHAIN+then-t-slot w ↦
          visit_astray c.args.t.now kept keys left slot some c.if-slot-eq-NO_SLOT.false w.if-t-slot.true
    ] in
    sym (i.visits ∙ ap (visited_more c.loop-sought.visited) stops)

pub loop-sought-preserved : goal.loop-sought-preserved
loop-sought-preserved c =
    let i = c.loop-sought.invariant in
    let t = c.args.t.now in
    let kept : ℕ = length_of t.index (asked_at c.args.keys.now c.args.first) in
    let keys = c.args.keys.now in
    let slot : ℕ = c.loop-sought.slot in
    let visited : ℕ = c.loop-sought.visited in
    let more : visited < CHAIN = omega arith in
    let marks = c.visit.ensures.sought in
    let slots = c.visit.ensures.slots in
    let some = some_marked c.loop-sought.sought keys (omega arith) c.contains.ensures.value c.loop-sought-test.true in
    let low : slot < t.capacity = c.if-t-slot.false in
    record {
      bound = omega arith;
      visits =
          i.visits
          ∙ rw c.next_in_chain-slot.ensures (walk_on t kept visited slot c.loop-sought.sought c.visit.new.sought keys (omega arith) (omega arith)
          (λ p l. marks p (omega arith)) some c.if-slot-eq-NO_SLOT.false low more);
      within = record {
        before = λ p a l. rw (marks p l, i.within.before p a l);
        behind = λ p a l. rw (marks p l, i.within.behind p a l);
      };
      unanswered = λ p l. unanswered_on t (asked_at keys p) visited slot (mark_at c.loop-sought.sought p) (get_or c.loop-sought.slots p 0) low (i.unanswered p l) (marks p l) (slots p l);
      places = λ p l.
          i.places p l
          ∙ rw c.next_in_chain-slot.ensures (answer_on t (asked_at keys p) visited slot (mark_at c.loop-sought.sought p) (get_or c.loop-sought.slots p 0) low more (marks p l) (slots p l));
    }

pub returns-clause-visits : goal.returns-clause-visits
returns-clause-visits c =
    let none = none_marked c.loop-sought.sought c.args.keys.now (omega arith) c.contains.ensures.value c.loop-sought-test.false in
    let found = visit_found c.args.t.now (length_of c.args.t.now.index (asked_at c.args.keys.now c.args.first)) (marked c.loop-sought.sought c.args.keys.now) (CHAIN - c.loop-sought.visited) c.loop-sought.slot none in
    sym (c.loop-sought.invariant.visits ∙ ap (visited_more c.loop-sought.visited) found ∙ ap (λ (x : ℕ). ok x) (omega arith))
