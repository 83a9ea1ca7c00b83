-- SPDX-License-Identifier: Apache-2.0
-- `picture::put_place` meets its contract. Assumes nothing.
use native.Mathlib.Omega.{arith}
use Rattle.basics.proofs.Tests.{flag}
use Rattle.picture_numbers.proofs.Laws.{one_number}
use Rattle.picture.proofs.Laws.{placed_none, placed_some}
use Rattle.picture.proofs.put_place.Goals as goal

pub returns-then-is_zero : goal.returns-then-is_zero
returns-then-is_zero g c = placed_none c.args.number _ (flag c.is_zero.ensures c.if-is_zero.true) c.put_text.ensures

pub returns : goal.returns
returns g c = placed_some c.args.number _ (flag c.is_zero.ensures c.if-is_zero.false) (one_number _ (omega arith) c.put.ensures) c.put-2.ensures
