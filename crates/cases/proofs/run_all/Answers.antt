-- SPDX-License-Identifier: Apache-2.0
-- `cases::run_all` meets its contract. Assumes nothing.
use Rattle.std.proofs.Common.{◌∙◌, rules, of_calls}
use Rattle.picture_numbers.specs.Wrote.{SameList}
use Rattle.picture_numbers.specs.declared.Page.{Page}
use Rattle.cases.proofs.run_all.Goals as goal
use Rattle.cases.proofs.run_all.Goals.{else-loop-test, then-loop-test+in_default, then-loop-test+in-Ok+in_default-take_case}

before : {p q r : Page} → SameList q r → SameList p q → SameList p r
before w v = record { size = w.size ∙ v.size; same_reference = w.same_reference ∙ v.same_reference }

pub returns-in_err-flush-clause-same_list : goal.returns-in_err-flush-clause-same_list
returns-in_err-flush-clause-same_list g c =
    before c.flush.ensures.same_list (before (c.requires.keeps_list _ _ _ _ _ _ _ c.take_case.ensures) c.loop.invariant.2)

pub loop-preserved : goal.loop-preserved
loop-preserved g c = (
  search of_calls,
  search rules,
  before c.flush.ensures.same_list (before (c.requires.keeps_list _ _ _ _ _ _ _ c.take_case.ensures) c.loop.invariant.2),
)

pub returns-clause-same_list : goal.returns-clause-same_list
returns-clause-same_list g c =
    let stays = c.flush-2.ensures.same_list in
    elim c.loop-test.branch [
      | else-loop-test w ↦ before stays (rw w.page-is c.loop.invariant.2)
      | then-loop-test+in_default w ↦ before stays (rw w.page-is c.loop.invariant.2)
      | then-loop-test+in-Ok+in_default-take_case w ↦
          before stays (rw w.page-is (before (c.requires.keeps_list _ _ _ _ _ _ _ w.take_case.ensures) c.loop.invariant.2))
    ]
