-- SPDX-License-Identifier: Apache-2.0
-- `picture_numbers::Page::put_numbers` meets its contract. Assumes nothing.
use native.Mathlib.Omega.{arith}
use mathlib.Core.Path.{refl}
use Rattle.picture_numbers.proofs.Laws.{one_number, no_numbers, one_more_number}
use Rattle.picture_numbers.proofs.Page.put_numbers.Goals as goal

pub loop-n-init : goal.loop-n-init
loop-n-init c = no_numbers c.put_text.ensures

pub loop-n-preserved : goal.loop-n-preserved
loop-n-preserved c = one_more_number c.args.numbers.now c.loop-n.n-index (omega arith) refl c.loop-n.invariant (one_number _ (let h = c.type_inv.numbers c.loop-n.n-index in omega arith) c.put.ensures)
