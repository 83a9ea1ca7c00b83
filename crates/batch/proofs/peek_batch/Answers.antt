-- SPDX-License-Identifier: Apache-2.0
-- `peek_batch` meets its contract: no place is answered at first, and the list gets the first places. Assumes nothing.
use Prim.Native.Nat.{ℕ, ◌≤◌}
use native.Mathlib.Omega.{arith}
use mathlib.Core.Path.{◌≡◌, ◌∙◌}
use mathlib.Core.List.{List, map}
use lib.ListN.{take}
use Rattle.std.proofs.lemmas.List.{get_or-replicate}
use Rattle.key.specs.Key.{no_key}
use Rattle.batch.specs.Batch.{slot_for, peek_batch}
use Rattle.batch.proofs.Places.{first_mapped}
use Rattle.batch.proofs.peek_batch.Goals as goal

pub peek_tested-requires : goal.peek_tested-requires
peek_tested-requires c = λ p l. get_or-replicate 64 p 65535 0 l

pub returns-in-Ok : goal.returns-in-Ok
unfolding peek_batch
returns-in-Ok c =
    let list : List ℕ = map (slot_for c.args.t) (take c.args.count c.args.keys) in
    let few : c.args.count ≤ 64 = c.in-Ok.ensures.fits.0 in
    let told : c.copy_from_slice.new.self ≡ list =
    c.copy_from_slice.ensures.after
    ∙ first_mapped (slot_for c.args.t) c.args.count c.peek_tested.new.slots c.args.keys 0 no_key (omega arith) (omega arith) c.in-Ok.ensures.slots in
    rw (told, ← c.in-Ok.ensures.visits)
