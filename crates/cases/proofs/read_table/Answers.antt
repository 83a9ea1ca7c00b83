-- SPDX-License-Identifier: Apache-2.0
-- `cases::read_table` meets its contract. Assumes nothing.
use Rattle.cases.proofs.Numbers.{number_on, ten_numbers}
use Rattle.cases.proofs.read_table.Goals as goal

pub returns : goal.returns
returns c =
    let bytes = c.args.bytes.now in
    let at = c.args.at in record {
      end_le_farthest = c.read_list-end.ensures;
      state_value = ten_numbers bytes at c.low_8-capacity.ensures
          (number_on bytes at 8 c.over-12.ensures.value c.low_8-8.ensures)
          (number_on bytes at 16 c.over-13.ensures.value c.low_8-9.ensures)
          (number_on bytes at 24 c.over.ensures.value c.low_8.ensures)
          (number_on bytes at 32 c.over-2.ensures.value c.low_8-2.ensures)
          (number_on bytes at 40 c.over-3.ensures.value c.low_8-3.ensures)
          (number_on bytes at 48 c.over-4.ensures.value c.low_8-4.ensures)
          (number_on bytes at 56 c.over-5.ensures.value c.low_8-5.ensures)
          (number_on bytes at 64 c.over-10.ensures.value c.low_8-6.ensures)
          (number_on bytes at 72 c.over-11.ensures.value c.low_8-7.ensures);
    }
