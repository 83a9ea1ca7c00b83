-- SPDX-License-Identifier: Apache-2.0
-- Remove and detach: the key of a clean slot leaves, a refusal leaves table and ledger as they were. Assumes nothing.
use Prim.Native.Nat.{ℕ}
use Rattle.basics.specs.Answers.{Fine}
use Rattle.state.specs.declared.State.{State}
use Rattle.state.specs.Answers.{After}
use Rattle.state.specs.Remove as rules
use Rattle.laws_table.proofs.StepLeave.{Left, no_slot!, unclean!, left!, detached, removed}
use Rattle.ledger.specs.Ledger.{Ledger, feed_remove}
use Rattle.ledger.proofs.Relation.Agree.{Agree}
use Rattle.ledger.proofs.Relation.Steps.{agree_left}

module _ (t : State) (l : Ledger) (a : Agree t l) (x : ℕ) where
  leaves : (r : After Fine) → Left t x r → Agree r.table (feed_remove l x r.answer)
  unfolding feed_remove
  leaves r d =
      elim d [
        | no_slot! h e ↦ rw e a
        | unclean! h q e ↦ rw e a
        | left! q u e p ↦ rw e (agree_left a q p)
      ]

  pub remove_agrees : Agree (rules.remove t x).table (feed_remove l x (rules.remove t x).answer)
  remove_agrees = leaves (rules.remove t x) (removed t a.inv x)

  pub detach_agrees : Agree (rules.detach t x).table (feed_remove l x (rules.detach t x).answer)
  detach_agrees = leaves (rules.detach t x) (detached t a.inv x)
