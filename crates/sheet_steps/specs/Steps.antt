-- SPDX-License-Identifier: Apache-2.0
-- "Codes: 1 new, 2 access, 3 publish, 4 abort, 5 lookup, 6 remove slot, 7 set pin of a clean slot, 8 resize, 9 reclaim"
use Rattle.std.specs.Prelude.{Option as Maybe, Some, None, ℕ, zero, suc, ◌+◌, Bool, not, List, eqb, length, get_or, set, if◌then◌else◌}
use Rattle.std.proofs.Math.Option.{Option, none, some}
use Rattle.basics.specs.Try.{Try, ok, refuse}
use Rattle.basics.specs.Refusals.{STALE}
use Rattle.basics.specs.Numbers.{NONE}
use Rattle.basics.specs.Answers.{Fine, done}
use Rattle.eviction.specs.Victim.{unpinned}
use Rattle.state.specs.declared.State.{State}
use Rattle.state.specs.declared.LoadToken.{LoadToken}
use Rattle.state.specs.Answers.{Given, hit, in_progress, reserved, evicted, busy, After}
use Rattle.state.specs.Fresh.{new}
use Rattle.state.specs.Access.{access}
use Rattle.state.specs.Tokens.{publish, abort}
use Rattle.state.specs.Lookup.{lookup}
use Rattle.state.specs.Remove.{need_clean, remove}
use Rattle.maintenance_reclaim.specs.Answers.{Reclaiming}
use Rattle.maintenance_reclaim.specs.Reclaim.{reclaim}
use Rattle.maintenance_resize.specs.Answers.{Size, unchanged, busy_now, resized, Resizing}
use Rattle.maintenance_resize.specs.Resize.{resize}
use Rattle.sheet_lines.specs.declared.Record.{Record}
use Rattle.sheet_standing.specs.declared.Standing.{Standing}
use Rattle.sheet_lines.specs.declared.Said.{Said}
use Rattle.sheet_lines.specs.Record.{read_record}
use Rattle.sheet_steps.specs.Standing.{Stepped, no_pins, afresh, with_state, with_pins, with_token, place_at, lent_pins, lent_list, says}

-- 1: "A refused 1 leaves all as it was"
unfoldable pub say_new : Standing → ℕ → State → Try Fine → Stepped
say_new s c t (ok done) = says (afresh t) (Said.Made c)
say_new s c t (refuse n) = says s (Said.Refused n)

unfoldable pub step_new : Standing → Record → Stepped
step_new s r = say_new s r.number (new r.number).table (new r.number).answer

-- 2: "An access that reserves puts its token in the named place"
unfoldable pub say_access : Standing → ℕ → State → Try Given → Stepped
say_access s place t (ok (hit slot)) = says (with_state s t) (Said.Hit slot)
say_access s place t (ok in_progress) = says (with_state s t) Said.Loading
say_access s place t (ok (reserved k)) = says (with_token (with_state s t) place k) (Said.Reserved k.slot)
say_access s place t (ok (evicted k)) = says (with_token (with_state s t) place k) (Said.Evicted k.slot)
say_access s place t (ok busy) = says (with_state s t) Said.Busy
say_access s place t (refuse n) = says (with_state s t) (Said.Refused n)

unfoldable pub access_of : Standing → Record → After Given
access_of s r = access s.state r.key r.allow (lent_pins s)

unfoldable pub step_access : Standing → Record → Stepped
step_access s r = say_access s r.place (access_of s r).table (access_of s r).answer

-- the word of a call that hands back no value
unfoldable pub say_done : Standing → Try Fine → Stepped
say_done s (ok done) = says s Said.Done
say_done s (refuse n) = says s (Said.Refused n)

-- 3 and 4: "An empty token place gives 6."
unfoldable pub say_token : Standing → (LoadToken → After Fine) → Maybe LoadToken → Stepped
say_token s call (Some k) = say_done (with_state s (call k).table) (call k).answer
say_token s call None = says s (Said.Refused STALE)

unfoldable pub step_publish : Standing → Record → Stepped
step_publish s r = say_token s (publish s.state) (place_at s r.place)

unfoldable pub step_abort : Standing → Record → Stepped
step_abort s r = say_token s (abort s.state) (place_at s r.place)

-- 5
unfoldable pub say_found : Standing → Try (Option ℕ) → Stepped
say_found s (ok (some slot)) = says s (Said.Hit slot)
say_found s (ok none) = says s Said.Nothing
say_found s (refuse n) = says s (Said.Refused n)

unfoldable pub step_lookup : Standing → Record → Stepped
step_lookup s r = say_found (with_state s (lookup s.state r.key).table) (lookup s.state r.key).answer

-- 6: "A pin goes with its key."
unfoldable pub say_removed : Standing → ℕ → Try Fine → Stepped
say_removed s slot (ok done) = says (with_pins s (set s.pins slot 0)) Said.Done
say_removed s slot (refuse n) = says s (Said.Refused n)

unfoldable pub step_remove : Standing → Record → Stepped
step_remove s r = say_removed (with_state s (remove s.state r.number).table) r.number (remove s.state r.number).answer

-- 7: "set pin of a clean slot (allow = 1 pins; 5, 8 as above)"
unfoldable pub say_pinned : Standing → ℕ → Bool → Try Bool → Stepped
say_pinned s slot pin (ok _) = says (with_pins s (set s.pins slot (if pin then 1 else 0))) Said.Done
say_pinned s slot pin (refuse n) = says s (Said.Refused n)

unfoldable pub step_pin : Standing → Record → Stepped
step_pin s r = say_pinned s r.number r.allow (need_clean s.state r.number)

-- 8: "A pin goes with its key", to the slot that resize's list gives it: for the slots left, from `slot` on
unfoldable pub move_pins : ℕ → List ℕ → List ℕ → ℕ → List ℕ → List ℕ
move_pins zero old list slot pins = pins
move_pins (suc left) old list slot pins =
    if unpinned old slot then move_pins left old list (slot + 1) pins else
    move_pins left old list (slot + 1) (set pins (get_or list slot NONE) (get_or old slot 0))

unfoldable pub say_size : Standing → State → List ℕ → Try Size → Stepped
say_size s t list (ok unchanged) = says (with_state s t) Said.Unchanged
say_size s t list (ok busy_now) = says (with_state s t) Said.Busy
say_size s t list (ok (resized c)) = says (with_pins (with_state s t) (move_pins (length list) s.pins list 0 no_pins)) (Said.Resized c)
say_size s t list (refuse n) = says (with_state s t) (Said.Refused n)

unfoldable pub resize_of : Standing → ℕ → Resizing
resize_of s asked = resize s.state asked (lent_pins s) (lent_list s)

unfoldable pub step_resize : Standing → Record → Stepped
step_resize s r = say_size s (resize_of s r.number).table (resize_of s r.number).list (resize_of s r.number).answer

-- 9
unfoldable pub say_count : Standing → ℕ → Try Fine → Stepped
say_count s count (ok done) = says s (Said.Reclaimed count)
say_count s count (refuse n) = says s (Said.Refused n)

unfoldable pub reclaim_of : Standing → ℕ → Reclaiming
reclaim_of s limit = reclaim s.state limit (lent_pins s)

unfoldable pub step_reclaim : Standing → Record → Stepped
step_reclaim s r = say_count (with_state s (reclaim_of s r.number).table) (reclaim_of s r.number).count (reclaim_of s r.number).answer

-- the codes 2 to 9
unfoldable pub step_code : Standing → Record → ℕ → Stepped
step_code s r code =
    if eqb code 2 then step_access s r else
    if eqb code 3 then step_publish s r else
    if eqb code 4 then step_abort s r else
    if eqb code 5 then step_lookup s r else
    if eqb code 6 then step_remove s r else
    if eqb code 7 then step_pin s r else
    if eqb code 8 then step_resize s r else
    step_reclaim s r

-- "a record before a 1 prints its number and `bad`"; a refused 1 "does not count as a 1"
unfoldable pub step_record : Standing → Maybe Record → Stepped
step_record s None = says s Said.Bad
step_record s (Some r) =
    if eqb r.code 1 then step_new s r else
    if not s.stands then says s Said.Bad else
    step_code s r r.code

-- the record at the front of the bytes
unfoldable pub step : Standing → List ℕ → Stepped
step s bytes = step_record s (read_record bytes)
