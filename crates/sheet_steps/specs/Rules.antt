-- SPDX-License-Identifier: Apache-2.0
-- One name that opens every rule up to here, for what is computed: `unfolding step_rules`.
use Rattle.std.specs.Prelude.{ℕ}
use Rattle.maintenance_reclaim.specs.Reclaim.{reclaim_from, reclaim}
use Rattle.maintenance_resize.specs.Rules.{resize_rules}
use Rattle.sheet_lines.specs.Rules.{line_rules}
use Rattle.sheet_steps.specs.Standing.{empty_places, no_pins, start, afresh, lent_pins, lent_list, clean_of, loading_of}
use Rattle.sheet_steps.specs.Steps.{say_new, step_new, say_access, access_of, step_access, say_done, say_token, step_publish, step_abort, say_found}
use Rattle.sheet_steps.specs.Steps.{step_lookup, say_removed, step_remove, say_pinned, step_pin, move_pins, say_size, resize_of, step_resize, say_count}
use Rattle.sheet_steps.specs.Steps.{reclaim_of, step_reclaim, step_code, step_record, step}

unfoldable pub step_rules : ℕ
unfolding resize_rules reclaim_from reclaim line_rules empty_places no_pins start afresh lent_pins lent_list clean_of loading_of say_new step_new
    say_access access_of step_access say_done say_token step_publish step_abort say_found step_lookup say_removed step_remove say_pinned step_pin
    move_pins say_size resize_of step_resize say_count reclaim_of step_reclaim step_code step_record step
step_rules = 0
