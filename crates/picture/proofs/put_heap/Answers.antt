-- SPDX-License-Identifier: Apache-2.0
-- `picture::put_heap` meets its contract. Assumes nothing.
use native.Mathlib.Omega.{arith}
use Rattle.picture.specs.Table.{heap_numbers}
use Rattle.picture_numbers.proofs.Laws.{numbers_joined, one_number}
use Rattle.picture.proofs.put_heap.Goals as goal

pub returns : goal.returns
unfolding heap_numbers
returns c = numbers_joined _ _ (numbers_joined _ _ (one_number _ (omega arith) c.put.ensures) c.put_list.ensures) c.put_words.ensures
