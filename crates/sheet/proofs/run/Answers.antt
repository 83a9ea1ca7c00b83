-- SPDX-License-Identifier: Apache-2.0
-- `sheet::run` meets its contract where a record was read: it was `bad`, or there are more. Assumes nothing.
use Rattle.std.proofs.Common.{rules, ◌∙◌, arith}
use Rattle.sheet.proofs.Runs.{run_end, chunk_bad, chunk_on, later}
use Rattle.sheet.proofs.run.Goals as goal

pub loop-record-preserved : goal.loop-record-preserved
loop-record-preserved c =
    let here = c.loop-record in
    let wrote = c.write_record.ensures in
    let step = c.in-Some.ensures.steps in
    let kept = chunk_on _ _ _ _ _ _ _ _ _ _ _ c.step-said.ensures step.1 step.0.1.0 here.invariant.size step.0.1.1 step.0.1.2 wrote.out_after (search rules) in
    record {
      text = kept ∙ here.invariant.text;
      behind = wrote.out_unchanged ∙ later here.out c.args.out.now here.ran.written c.write_record.result wrote.lower_bound.0 here.invariant.behind;
      long = wrote.out_len_unchanged ∙ here.invariant.long;
      room = omega arith;
      last = omega arith;
      size = step.0.0 ∙ here.invariant.size;
      goes = search rules;
    }

pub returns-in-None-clause-out_after : goal.returns-in-None-clause-out_after
returns-in-None-clause-out_after c =
    let here = c.loop-record in
    let step = c.in-None.ensures.steps in
    rw here.invariant.goes (run_end _ _ _ _ _ (λ h. (step h).1.0)) ∙ here.invariant.text

pub returns-then-ran-clause-out_after : goal.returns-then-ran-clause-out_after
returns-then-ran-clause-out_after c =
    let here = c.loop-record in
    let wrote = c.write_record.ensures in
    let step = c.in-Some.ensures.steps in
    let last = chunk_bad _ _ _ _ _ _ _ _ _ _ _ c.step-said.ensures step.1 step.0.1.0 here.invariant.size step.0.1.1 step.0.1.2 wrote.out_after (search rules) in
    rw c.if-ran.true last ∙ here.invariant.text

pub returns-then-ran-clause-out_unchanged : goal.returns-then-ran-clause-out_unchanged
returns-then-ran-clause-out_unchanged c =
    let here = c.loop-record in
    let wrote = c.write_record.ensures in
    wrote.out_unchanged ∙ later here.out c.args.out.now here.ran.written c.write_record.result wrote.lower_bound.0 here.invariant.behind
