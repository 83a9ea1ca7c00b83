-- SPDX-License-Identifier: Apache-2.0
-- `Index::try_new` meets its contract: the counts fit the arrays. Assumes nothing.
use native.Mathlib.Omega.{arith}
use Rattle.index.proofs.Cases.{counted}
use Rattle.index.proofs.Index.try_new.Goals as goal

pub unset-requires : goal.unset-requires
unset-requires c = (omega arith, (counted c.in_ok-buckets.ensures).1)

pub unset-requires-2 : goal.unset-requires-2
unset-requires-2 c = (omega arith, (counted c.in_ok-buckets.ensures).0)
