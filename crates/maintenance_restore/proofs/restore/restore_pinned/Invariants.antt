-- SPDX-License-Identifier: Apache-2.0
-- `restore::restore_pinned` meets its contract: what is left to restore, and to try, are the slots and the pins that are left. Assumes nothing.
use Prim.Native.Nat.{◌+◌}
use Rattle.std.proofs.Common.{◌≡◌}
use Rattle.std.specs.Iterator.Adapters.{zip_first, zip_second}
use Rattle.std.specs.Slice.Iter.{iter_rest}
use Rattle.maintenance_restore.specs.Restore.{restore_pinned}
use Rattle.maintenance_restore.specs.Tries.{tries_pinned}
use Rattle.maintenance_restore.proofs.Cases.{restored_from, tried_from}
use Rattle.maintenance_restore.proofs.restore.restore_pinned.Given as goal

abbrev pub invariant-loop-entry : goal.invariant-loop-entry
invariant-loop-entry l =
    (restored_from (iter_rest (zip_first l.entry-iterator)) (iter_rest (zip_second l.entry-iterator)) l.new ≡ restore_pinned l.old.capacity l.old l.pins 0 l.initial.new) ×
    (l.tries + tried_from (iter_rest (zip_first l.entry-iterator)) (iter_rest (zip_second l.entry-iterator)) l.new ≡ l.initial.tries + tries_pinned l.old.capacity l.old l.pins 0 l.initial.new)
