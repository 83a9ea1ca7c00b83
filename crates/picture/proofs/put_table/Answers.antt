-- SPDX-License-Identifier: Apache-2.0
-- `picture::put_table` meets its contract. Assumes nothing.
use native.Mathlib.Omega.{arith}
use Rattle.picture.specs.Table.{table_numbers}
use Rattle.picture_numbers.proofs.Laws.{numbers_joined, one_number}
use Rattle.picture.proofs.put_table.Goals as goal

pub returns : goal.returns
unfolding table_numbers
returns c =
    let one = one_number _ (omega arith) c.put.ensures in
    let two = numbers_joined _ _ one (one_number _ (omega arith) c.put-2.ensures) in
    let three = numbers_joined _ _ two (one_number _ (omega arith) c.put-3.ensures) in
    let counts = numbers_joined _ _ three c.put_numbers.ensures in
    numbers_joined _ _ (numbers_joined _ _ (numbers_joined _ _ counts c.put_list.ensures) c.put_index.ensures) c.put_heap.ensures
