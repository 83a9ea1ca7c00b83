-- SPDX-License-Identifier: Apache-2.0
-- One name that opens every rule of resize, for what is computed: `unfolding resize_rules`; and one that opens those of its cost too.
use Rattle.std.specs.Prelude.{ℕ}
use Rattle.state.specs.Rules.{table_rules}
use Rattle.maintenance_restore.specs.Pins.{pin_count, pins_clean, raised}
use Rattle.maintenance_restore.specs.Restore.{restore_into, restore, restore_pinned, candidate}
use Rattle.maintenance_restore.specs.Tries.{tries_pinned, tries_candidate}
use Rattle.maintenance_resize.specs.Move.{leave_to, leave_pinned, drop_oldest, keep_new, restore_unless, restore_rest}
use Rattle.maintenance_resize.specs.Move.{move_or_remove, move_rest, inherit, remake}
use Rattle.maintenance_resize.specs.Resize.{fresh_start, remake_or_busy, resize_to, resize_steps, resize}
use Rattle.maintenance_resize.specs.Cost.{tries_rest, tries_remaking, tries_to, restores_of, dropped, cost}

unfoldable pub resize_rules : ℕ
unfolding table_rules pin_count pins_clean raised restore_into restore restore_pinned candidate
    leave_to leave_pinned drop_oldest keep_new restore_unless restore_rest move_or_remove move_rest inherit remake
    fresh_start remake_or_busy resize_to resize_steps resize
resize_rules = 0

unfoldable pub cost_rules : ℕ
unfolding resize_rules tries_pinned tries_candidate tries_rest tries_remaking tries_to restores_of dropped cost
cost_rules = 0
