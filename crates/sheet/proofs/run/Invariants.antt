-- SPDX-License-Identifier: Apache-2.0
-- `sheet::run` meets its contract. The invariant: what is printed, in front of what the rule prints for the rest, is what it prints for the block.
-- Assumes nothing.
use Rattle.std.proofs.Common.{◌≡◌, ◌+◌, ◌*◌, ◌≤◌, false, length, take, drop}
use Rattle.std.specs.Iterator.Adapters.{take_source, take_count}
use Rattle.std.specs.Slice.Iter.{chunks_rest, chunks_size}
use Rattle.basics.specs.Numbers.{MAX}
use Rattle.sheet.specs.Run.{in_front, run_from, turns}
use Rattle.sheet.proofs.run.Given as goal

abbrev pub invariant-loop-record : goal.invariant-loop-record
invariant-loop-record l = record {
  text : in_front (take l.ran.written l.out) (run_from (take_count l.record-iterator) l.ran.standing l.ran.number (chunks_rest (take_source l.record-iterator)))
      ≡ run_from (turns l.fn.first (length l.initial.out)) l.fn.standing l.fn.first l.bytes;
  behind : drop l.ran.written l.out ≡ drop l.ran.written l.initial.out;
  long : length l.out ≡ length l.initial.out;
  room : l.ran.written + 96 * take_count l.record-iterator ≤ length l.initial.out;
  last : l.ran.number + take_count l.record-iterator ≤ MAX;
  size : chunks_size (take_source l.record-iterator) ≡ 24;
  goes : l.ran.ended ≡ false;
}
