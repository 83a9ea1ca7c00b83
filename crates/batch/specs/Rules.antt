-- SPDX-License-Identifier: Apache-2.0
-- One name that opens every rule of the batch, for what is computed: `unfolding batch_rules`.
use Rattle.std.specs.Prelude.{ℕ}
use Rattle.state.specs.Rules.{table_rules}
use Rattle.batch.specs.Batch.{holds, visit_from, visit_chain, total, slot_from, slot_for, visits_of, peek_batch}

unfoldable pub batch_rules : ℕ
unfolding table_rules holds visit_from visit_chain total slot_from slot_for visits_of peek_batch
batch_rules = 0
