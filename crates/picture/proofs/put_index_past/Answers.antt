-- SPDX-License-Identifier: Apache-2.0
-- `picture::put_index_past` meets its contract. Assumes nothing.
use Rattle.picture.specs.Table.{index_past}
use Rattle.picture_numbers.proofs.Laws.{numbers_joined}
use Rattle.picture.proofs.put_index_past.Goals as goal

pub returns : goal.returns
unfolding index_past
returns c =
    let buckets = numbers_joined _ _ c.put_list_past.ensures c.put_list_past-2.ensures in
    numbers_joined _ _ (numbers_joined _ _ buckets c.put_list_past-3.ensures) c.put_list_past-4.ensures
