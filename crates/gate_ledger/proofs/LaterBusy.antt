-- SPDX-License-Identifier: Apache-2.0
-- A later Busy with the mark set, by the shortest list: in 129 slots 65 keys are reserved, of files in a row, whose sums are multiples of 256; resize marks
-- the gate over them, they are published, and resize is asked again with the 65 pinned. In 128 slots they share a bucket, whose chain refuses the 65th.
-- Assumes nothing.
use Prim.Native.Nat.{ℕ, zero, suc, ◌+◌, ◌*◌}
use native.Mathlib.Omega.{arith}
use mathlib.Core.Path.{◌≡◌, refl}
use mathlib.Core.Bool.{true}
use mathlib.Core.List.{List, [], ◌∷◌, ◌++◌}
use lib.ListN.{replicate}
use Rattle.gate.specs.Gate as gates
use Rattle.ledger.specs.Calls as Plain
use Rattle.ledger.proofs.Samples.Words.{mate, token_of}
use Rattle.gate_ledger.specs.Calls.{Call, call, rules, start, run, log}
use Rattle.gate_ledger.specs.Ledger.{begin}
use Rattle.gate_ledger.specs.Claim.{Kept, ledger_of}
use Rattle.gate_ledger.specs.Opened.{opened}
use Rattle.gate_ledger.proofs.Demand3.{demand3_gated}
use Rattle.gate_ledger.proofs.Samples.{meets_all, fair_all}

-- a key for each of so many slots from `slot` on: reserved, and published
unfoldable reserves : ℕ → ℕ → List Call
reserves zero slot = []
reserves (suc n) slot = call (Plain.access (mate (256 * slot) slot) true (replicate 129 0)) ∷ reserves n (slot + 1)

unfoldable publishes : ℕ → ℕ → List Call
publishes zero slot = []
publishes (suc n) slot = call (Plain.publish (token_of slot (slot + 1) (mate (256 * slot) slot) (slot + 1))) ∷ publishes n (slot + 1)

abbrev small : Call
small = call (Plain.resize 1 (replicate 65 1 ++ replicate 64 0) (replicate 129 7))

unfoldable pub later : List Call
unfolding reserves publishes
later = reserves 65 0 ++ (small ∷ publishes 65 0 ++ (small ∷ []))

-- the mark is as it was, and the second resize is counted
later_gate : (run rules (start 129) later).gate ≡ gates.gate_of 0 0 true 1
unfolding opened later
later_gate = refl

-- it meets the premises
later_kept : Kept rules (run rules (start 129) later) (ledger_of rules 129 later)
unfolding opened meets_all later
later_kept = demand3_gated 129 (omega arith) (omega arith) later (fair_all (begin 129) (log rules (start 129) later) refl)
