-- SPDX-License-Identifier: Apache-2.0
-- The page is as long as it was made: computing that takes more stack than the check has.
use Rattle.std.proofs.Common.{◌≡◌, ℕ, sym, length, replicate}
use Rattle.std.proofs.lemmas.List.{length-replicate}
use Rattle.cost_trace.proofs.run_all.Goals as goal

made_length : (n : ℕ) → n ≡ length {0} {A = ℕ} (replicate {0} n 0)
made_length n = sym (length-replicate {0} {A = ℕ} n 0)

pub slice_bounds-page-end : goal.slice_bounds-page-end
slice_bounds-page-end g c = made_length 524288
