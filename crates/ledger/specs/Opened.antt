-- SPDX-License-Identifier: Apache-2.0
-- One name that opens the rules, the ledger and the claim, for what is computed: `unfolding opened`.
use Rattle.std.specs.Prelude.{ℕ}
use Rattle.maintenance_reclaim.specs.Reclaim.{reclaim_from, reclaim}
use Rattle.maintenance_resize.specs.Rules.{resize_rules}
use Rattle.ledger.specs.Calls.{event, after, run, log}
use Rattle.ledger.specs.Ledger.{begin, next_token, reserves, not_at, used_one, uses, clean_one, not_key, stays, moved_one, remakes}
use Rattle.ledger.specs.Ledger.{feed_access, feed_publish, feed_abort, feed_lookup, feed_remove, feed_resize, feed_reclaim, feed, feeds}
use Rattle.ledger.specs.Expect.{clean_ones, older_of, oldest, sharing, expect_victim, expect_key, expect, same_token, was_given, outstanding}
use Rattle.ledger.specs.Expect.{expect_end, same_use, present, resize_keeps}
use Rattle.ledger.specs.Claim.{shown, shown_held, slots_from, distinct, ledger_of}
use Rattle.ledger.specs.Conservation.{total}

unfoldable pub opened : ℕ
unfolding resize_rules reclaim_from reclaim event after run log begin next_token reserves not_at used_one uses clean_one not_key stays moved_one
    remakes feed_access feed_publish feed_abort feed_lookup feed_remove feed_resize feed_reclaim feed feeds clean_ones older_of oldest
    sharing expect_victim expect_key expect same_token was_given outstanding expect_end same_use present resize_keeps shown shown_held slots_from
    distinct ledger_of total
opened = 0
