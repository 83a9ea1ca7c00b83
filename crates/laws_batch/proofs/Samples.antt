-- SPDX-License-Identifier: Apache-2.0
-- The chain of crate batch's samples, of pages 17, 9 loading and 1: a single peek of page 9 goes on behind its slot, to the end of the chain. Assumes nothing.
use mathlib.Core.Path.{◌≡◌, refl}
use Rattle.basics.specs.Try.{refuse}
use Rattle.basics.specs.Refusals.{STOP}
use Rattle.batch.proofs.Samples.{key, chain, kept_9}
use Rattle.batch.specs.Rules.{batch_rules}
use Rattle.laws_batch.specs.Single.{single_from, single_peek, visits}

-- where a batch of it alone visits 2
loading_alone : visits chain (key 9) ≡ 3
unfolding batch_rules chain single_from single_peek
loading_alone = refl

-- so it meets a kept length that is wrong, and a batch does not
length_met_alone : (single_peek kept_9 (key 9)).answer ≡ refuse STOP
unfolding batch_rules chain single_from single_peek
length_met_alone = refl
