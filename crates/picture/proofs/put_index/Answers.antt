-- SPDX-License-Identifier: Apache-2.0
-- `picture::put_index` meets its contract. Assumes nothing.
use native.Mathlib.Omega.{arith}
use mathlib.Core.Path.{ap}
use Rattle.picture.specs.Table.{index_numbers}
use Rattle.picture.proofs.Laws.{below_words}
use Rattle.picture_numbers.specs.Numbers.{spaced}
use Rattle.picture_numbers.proofs.Laws.{wrote_as, numbers_joined, one_number}
use Rattle.picture.proofs.put_index.Goals as goal

pub returns : goal.returns
unfolding index_numbers
returns c =
    let buckets = one_number _ (omega arith) c.put.ensures in
    let lengths = wrote_as (ap spaced (below_words _ _)) c.put_list.ensures in
    let lists = numbers_joined _ _ (numbers_joined _ _ (numbers_joined _ _ buckets c.put_words.ensures) lengths) c.put_words-2.ensures in
    let free_len = numbers_joined _ _ lists (one_number _ (omega arith) c.put-2.ensures) in
    numbers_joined _ _ free_len c.put_words-3.ensures
