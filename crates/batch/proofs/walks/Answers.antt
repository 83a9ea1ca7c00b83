-- SPDX-License-Identifier: Apache-2.0
-- `walks` meets its contract: before the first key, at a key whose bucket was walked or not, at a stop, and behind the last key. Assumes nothing.
use Prim.Native.Nat.{ℕ, ◌<◌}
use native.Mathlib.Omega.{arith}
use mathlib.Core.Path.{◌≡◌, sym, ◌∙◌}
use mathlib.Core.Bool.{true, false}
use Rattle.std.proofs.Common.{rules, Err}
use Rattle.std.proofs.lemmas.List.{get_or-replicate}
use Rattle.basics.specs.declared.Refusal.{Refusal}
use Rattle.basics.specs.Answers.{number}
use lib.ListN.{get_or}
use Rattle.batch.specs.Parts.{walked_to}
use Rattle.batch.proofs.Buckets.{visits_none, filled_none, visits_same, filled_same, visits_more, filled_more, visits_refused, visits_all, filled_all}
use Rattle.batch.proofs.walks.Goals as goal
use Rattle.batch.proofs.walks.Goals.{then-not-contains+in_ok-visited, else-not-contains}

pub loop-place-init : goal.loop-place-init
loop-place-init c =
    let t = c.args.t.now in
    let keys = c.args.keys.now in
    let buckets = c.buckets_of.new.bucket in
    let own = c.buckets_of.ensures in
    record {
      bound = omega arith;
      visits = visits_none t keys buckets c.args.count c.told-keys (omega arith) c.requires.count own;
      slots = λ p l. filled_none t keys buckets c.args.count c.told-keys (omega arith) c.requires.count own p (get_or c.args.slots.now p 0) (c.requires.unanswered p l);
    }

pub places_of-end-requires-clause-none : goal.places_of-end-requires-clause-none
places_of-end-requires-clause-none c = λ p l. get_or-replicate 64 p false false l

pub returns-in_err-visited-clause-visits : goal.returns-in_err-visited-clause-visits
returns-in_err-visited-clause-visits c =
    let why : Refusal = c.in_err-visited.field-0.0 in
    let handed : c.from_residual.result ≡ Err why = search rules in
    let fresh : walked_to c.buckets_of.new.bucket c.loop-place.place (get_or c.buckets_of.new.bucket c.loop-place.place 0) ≡ false =
    sym c.contains.ensures.value ∙ c.if-not-contains.true in
    rw handed (sym (visits_refused c.args.t.now c.args.keys.now c.buckets_of.new.bucket c.args.count c.told-keys (omega arith) c.requires.count
    c.buckets_of.ensures c.loop-place.place c.loop-place-test.true c.places_of-end.new.sought (omega arith) c.places_of-end.ensures.marks fresh
    (number why) c.requires.some (sym c.in_err-visited.ensures.visits)))

pub loop-place-preserved : goal.loop-place-preserved
loop-place-preserved c =
    let t = c.args.t.now in
    let keys = c.args.keys.now in
    let count : ℕ = c.args.count in
    let buckets = c.buckets_of.new.bucket in
    let own = c.buckets_of.ensures in
    let place : ℕ = c.loop-place.place in
    let low : place < count = c.loop-place-test.true in
    let i = c.loop-place.invariant in
    elim c.if-not-contains.branch [
      | then-not-contains+in_ok-visited w ↦
          let marks = w.places_of-end.new.sought in
          let told = w.places_of-end.ensures.marks in
          let fresh : walked_to buckets place (get_or buckets place 0) ≡ false = sym c.contains.ensures.value ∙ w.if-not-contains.true in
          let more : ℕ = w.in_ok-visited.field-0 in
          record {
            bound = rw w.visited-is (omega (arith, w.in_ok-visited.ensures.bound));
            visits = rw w.visited-is (visits_more t keys buckets count c.told-keys (omega arith) c.requires.count own place low marks (omega arith) told fresh
                c.loop-place.visited more c.requires.some (sym w.in_ok-visited.ensures.visits) i.visits);
            slots = λ p l.
                rw w.slots-is (w.in_ok-visited.ensures.slots p l ∙ filled_more t keys buckets count c.told-keys (omega arith) c.requires.count own place low marks (omega arith)
                told fresh p (get_or c.loop-place.slots p 0) l (i.slots p l));
          }
      | else-not-contains w ↦
          let walked : walked_to buckets place (get_or buckets place 0) ≡ true = sym c.contains.ensures.value ∙ w.if-not-contains.false in
          record {
            bound = rw w.visited-is (omega arith);
            visits = rw w.visited-is (visits_same t keys buckets count c.told-keys (omega arith) c.requires.count own place low c.loop-place.visited walked i.visits);
            slots = λ p l. rw w.slots-is (i.slots p l ∙ filled_same t keys buckets count c.told-keys (omega arith) c.requires.count own place low p walked);
          }
    ]

pub returns-clause-visits : goal.returns-clause-visits
returns-clause-visits c =
    let all : c.loop-place.place ≡ c.args.count = omega arith in
    sym (visits_all c.args.t.now c.args.keys.now c.buckets_of.new.bucket c.args.count c.told-keys (omega arith) c.requires.count c.buckets_of.ensures
    c.loop-place.visited (rw all at c.loop-place.invariant.visits))

pub returns-clause-slots : goal.returns-clause-slots
returns-clause-slots c p l =
    let all : c.loop-place.place ≡ c.args.count = omega arith in
    rw all at (c.loop-place.invariant.slots p (omega arith))
    ∙ filled_all c.args.t.now c.args.keys.now c.buckets_of.new.bucket c.args.count c.told-keys (omega arith) c.requires.count c.buckets_of.ensures p l
