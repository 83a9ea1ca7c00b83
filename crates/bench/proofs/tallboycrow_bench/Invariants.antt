-- SPDX-License-Identifier: Apache-2.0
-- `bench::tallboycrow_bench` meets its contract: the records that are left, from what stands, come to what the sheet comes to. Assumes nothing.
use Rattle.std.proofs.Common.{◌≡◌, ◌/◌, length}
use Rattle.std.specs.Slice.Iter.{chunks_exact_rest, chunks_exact_size}
use Rattle.bench.specs.Run.{running, start, run_from}
use Rattle.bench.proofs.tallboycrow_bench.Given as goal

abbrev pub invariant-loop-record : goal.invariant-loop-record
invariant-loop-record l =
    let rest = chunks_exact_rest l.record-iterator in
    (chunks_exact_size l.record-iterator ≡ 3) × (run_from (length rest / 3) rest 0 (running l.t l.tokens l.sum) ≡ run_from (length l.sheet / 3) l.sheet 0 start)
