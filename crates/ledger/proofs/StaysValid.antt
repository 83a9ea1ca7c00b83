-- SPDX-License-Identifier: Apache-2.0
-- Every list of calls, with any arguments, leaves a valid table, and no call on it gives 10. Assumes nothing.
use mathlib.Core.List.{List, [], ◌∷◌}
use Rattle.state.specs.declared.State.{State}
use Rattle.state.specs.Fresh.{fresh}
use Rattle.laws_table.specs.Table.{Valid}
use Rattle.laws_table.proofs.FreshTable.{fresh_valid}
use Rattle.laws_table.proofs.CallsKeep.{access_keeps, publish_keeps, abort_keeps, lookup_keeps, remove_keeps, detach_keeps}
use Rattle.laws_maintenance.proofs.CallsKeep.{resize_keeps_lem, reclaim_keeps}
use Rattle.ledger.specs.Calls.{Call, access, publish, abort, lookup, remove, detach, resize, reclaim, rules, event, after, run}
use Rattle.ledger.specs.Valid.{Runs, StaysValid}

pub call_valid : (t : State) → Valid t → (c : Call) → Valid (after rules t c) × Runs (event rules t c)
unfolding after event
call_valid t v (access key allow pins) = let k = access_keeps t v key allow pins in (k.valid, k.runs)
call_valid t v (publish token) = let k = publish_keeps t v token in (k.valid, k.runs)
call_valid t v (abort token) = let k = abort_keeps t v token in (k.valid, k.runs)
call_valid t v (lookup key) = let k = lookup_keeps t v key in (k.valid, k.runs)
call_valid t v (remove slot) = let k = remove_keeps t v slot in (k.valid, k.runs)
call_valid t v (detach slot) = let k = detach_keeps t v slot in (k.valid, k.runs)
call_valid t v (resize asked pins list) = let k = resize_keeps_lem t v asked pins list in (k.valid, k.runs)
call_valid t v (reclaim limit pins) = let k = reclaim_keeps t v limit pins in (k.valid, k.runs)

run_valid : (t : State) → Valid t → (cs : List Call) → Valid (run rules t cs)
unfolding run
run_valid t v [] = v
run_valid t v (c ∷ cs) = run_valid (after rules t c) (call_valid t v c).0 cs

pub stays_valid : StaysValid rules
stays_valid c hp hs cs = let v = run_valid (fresh c) (fresh_valid c hp hs) cs in (v, λ next. (call_valid (run rules (fresh c) cs) v next).1)
