-- SPDX-License-Identifier: Apache-2.0
-- `picture::put_past` meets its contract. Assumes nothing.
use Rattle.picture.specs.Table.{past_numbers}
use Rattle.picture_numbers.proofs.Laws.{numbers_joined}
use Rattle.picture.proofs.put_past.Goals as goal

pub returns : goal.returns
unfolding past_numbers
returns c = numbers_joined _ _ (numbers_joined _ _ c.put_list_past.ensures c.put_index_past.ensures) c.put_heap_past.ensures
