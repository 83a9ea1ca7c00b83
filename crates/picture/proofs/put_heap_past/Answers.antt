-- SPDX-License-Identifier: Apache-2.0
-- `picture::put_heap_past` meets its contract. Assumes nothing.
use Rattle.picture.specs.Table.{heap_past}
use Rattle.picture_numbers.proofs.Laws.{numbers_joined}
use Rattle.picture.proofs.put_heap_past.Goals as goal

pub returns : goal.returns
unfolding heap_past
returns c = numbers_joined _ _ c.put_list_past.ensures c.put_list_past-2.ensures
