-- SPDX-License-Identifier: Apache-2.0
-- The theorem at the lists of calls of the samples. Assumes nothing.
use native.Mathlib.Omega.{arith}
use Rattle.state.specs.Fresh.{fresh}
use Rattle.ledger.specs.Calls.{rules, run}
use Rattle.ledger.specs.Claim.{Kept, ledger_of}
use Rattle.ledger.proofs.Demand3.{demand3}
use Rattle.ledger.proofs.Samples.Hits.{hits, hits_fair}
use Rattle.ledger.proofs.Samples.Sizes.{sizes, sizes_fair}
use Rattle.ledger.proofs.Samples.Carried.{carried, carried_fair}

pub hits_kept : Kept rules (run rules (fresh 2) hits) (ledger_of rules 2 hits)
hits_kept = demand3 2 (omega arith) (omega arith) hits hits_fair

pub sizes_kept : Kept rules (run rules (fresh 2) sizes) (ledger_of rules 2 sizes)
sizes_kept = demand3 2 (omega arith) (omega arith) sizes sizes_fair

pub carried_kept : Kept rules (run rules (fresh 2) carried) (ledger_of rules 2 carried)
carried_kept = demand3 2 (omega arith) (omega arith) carried carried_fair
