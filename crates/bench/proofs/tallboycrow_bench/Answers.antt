-- SPDX-License-Identifier: Apache-2.0
-- `bench::tallboycrow_bench` meets its contract: the records that are left, from what stands, come to what the sheet comes to. Assumes nothing.
use Rattle.std.proofs.Common.{rules, ap, sym, ◌∙◌}
use Rattle.bench.specs.Run.{run_from, total, checksum}
use Rattle.bench.proofs.Cases.{on, run_end, starts, total_told, new_goes, access_goes, publish_goes, abort_goes, lookup_goes, resize_goes, through_goes, batch_goes, peek_goes, cost_goes, reclaim_goes}
use Rattle.bench.proofs.tallboycrow_bench.Goals as goal

pub loop-record-init : goal.loop-record-init
loop-record-init c =
    let chunks = c.chunks_exact-record-items.ensures in
    rw c.into_iter-record-iterator.ensures.into_iter_gives (chunks.size, rw chunks.rest (ap (run_from _ _ 0) (starts c.try_new.ensures c.no_token-tokens.ensures)))

pub loop-record-preserved-in-1 : goal.loop-record-preserved-in-1
loop-record-preserved-in-1 c =
    on _ _ _ _ c.loop-record.invariant c.in-Some.ensures.steps (new_goes _ _ _ _ _ _ c.of_done.ensures c.plus-sum.ensures c.in-1.is c.try_new-made.ensures)

pub loop-record-preserved-in-2 : goal.loop-record-preserved-in-2
loop-record-preserved-in-2 c =
    on _ _ _ _ c.loop-record.invariant c.in-Some.ensures.steps (access_goes _ _ _ _ _ _ c.min-count.ensures c.of_access.ensures c.plus-sum-in-2.ensures c.hold.ensures c.in-2.is c.access-accessed.ensures)

pub loop-record-preserved-in-3 : goal.loop-record-preserved-in-3
loop-record-preserved-in-3 c =
    on _ _ _ _ c.loop-record.invariant c.in-Some.ensures.steps (publish_goes _ _ _ _ _ _ c.of_done-in-3.ensures c.plus-sum-in-3.ensures c.in-3.is c.publish-published.ensures)

pub loop-record-preserved-in-4 : goal.loop-record-preserved-in-4
loop-record-preserved-in-4 c =
    on _ _ _ _ c.loop-record.invariant c.in-Some.ensures.steps (abort_goes _ _ _ _ _ _ c.of_done-in-4.ensures c.plus-sum-in-4.ensures c.in-4.is c.abort-aborted.ensures)

pub loop-record-preserved-in-5 : goal.loop-record-preserved-in-5
loop-record-preserved-in-5 c =
    on _ _ _ _ c.loop-record.invariant c.in-Some.ensures.steps (lookup_goes _ _ _ _ _ _ c.of_found.ensures c.plus-sum-in-5.ensures c.in-5.is c.lookup-looked.ensures)

pub loop-record-preserved-in-8 : goal.loop-record-preserved-in-8
loop-record-preserved-in-8 c =
    on _ _ _ _ c.loop-record.invariant c.in-Some.ensures.steps (resize_goes _ _ _ _ _ _ c.min-count.ensures c.of_maintenance.ensures c.plus-sum-in-8.ensures c.in-8.is c.resize-maintained.ensures)

pub loop-record-preserved-in-10 : goal.loop-record-preserved-in-10
loop-record-preserved-in-10 c =
    on _ _ _ _ c.loop-record.invariant c.in-Some.ensures.steps (through_goes _ _ _ _ _ _ c.min-count.ensures c.of_access-in-10.ensures c.plus-sum-in-10.ensures c.hold-in-10.ensures c.new-gate.ensures c.in-10.is c.access-accessed-in-10.ensures)

pub loop-record-preserved-in-11 : goal.loop-record-preserved-in-11
loop-record-preserved-in-11 c =
    on _ _ _ _ c.loop-record.invariant c.in-Some.ensures.steps (batch_goes _ _ _ _ _ _ c.of_done-in-11.ensures c.plus.ensures c.plus-in-11.ensures c.plus_all-sum.ensures c.reel.ensures c.in-11.is c.peek_batch-peeked.ensures)

pub loop-record-preserved-in-12 : goal.loop-record-preserved-in-12
loop-record-preserved-in-12 c =
    on _ _ _ _ c.loop-record.invariant c.in-Some.ensures.steps (peek_goes _ _ _ _ _ _ c.of_found-in-12.ensures c.plus-sum-in-12.ensures c.in-12.is c.peek_clean.ensures)

pub loop-record-preserved-in-13 : goal.loop-record-preserved-in-13
loop-record-preserved-in-13 c =
    on _ _ _ _ c.loop-record.invariant c.in-Some.ensures.steps (cost_goes _ _ _ _ _ _ c.min-count.ensures c.of_maintenance-in-13.ensures c.plus-in-13.ensures c.plus-in-13-2.ensures c.plus-in-13-3.ensures c.plus-sum-in-13.ensures c.in-13.is c.cost-cost.ensures)

pub loop-record-preserved : goal.loop-record-preserved
loop-record-preserved c =
    on _ _ _ _ c.loop-record.invariant c.in-Some.ensures.steps (reclaim_goes _ _ _ _ _ _ c.min-count.ensures c.word.ensures c.plus-sum-in_default.ensures (search rules) c.reclaim-batch.ensures)

pub returns : goal.returns
unfolding checksum
returns c =
    let loop = c.loop-record in
    let steps = c.in-None.ensures.steps in
    total_told loop.t loop.tokens loop.sum c.plus-2.ensures c.plus-3.ensures c.plus-4.ensures c.plus-5.ensures c.plus-6.ensures c.plus-7.ensures
    ∙ ap total (sym (run_end _ _ (rw loop.invariant.0 at steps.1.0)) ∙ loop.invariant.1)
