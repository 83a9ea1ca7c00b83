-- SPDX-License-Identifier: Apache-2.0
-- The heap's places, read: `oldest`, `candidate`, and "the first unpinned slot among the first min(clean, 64) heap places". `c` is the capacity.
use Rattle.std.specs.Prelude.{ℕ, zero, suc, ◌+◌, Bool, List, ltb, leb, eqb, length, get_or, if◌then◌else◌}
use Rattle.std.proofs.Math.Option.{Option, none, some}
use Rattle.basics.specs.Try.{Try, ok, refuse, ◌>>◌, need}
use Rattle.basics.specs.Refusals.{STOP, PINS}
use Rattle.eviction.specs.declared.EvictionHeap.{EvictionHeap}
use Rattle.eviction.specs.Entries.{at, sized}

-- `candidate`: the slot at a heap place, where the heap reaches so far
unfoldable pub candidate_at : ℕ → EvictionHeap → ℕ → Try (Option ℕ)
candidate_at c h i = do
  need (sized c h) STOP
  if ltb i h.len then ok (some (at h i).slot) else ok none

-- `oldest`: the slot at the root
unfoldable pub oldest_of : ℕ → EvictionHeap → Try (Option ℕ)
oldest_of c h = candidate_at c h 0

-- "pins are a lent byte for each slot, 0 unpinned, other pinned."
abbrev pub unpinned : List ℕ → ℕ → Bool
unpinned pins slot = eqb (get_or pins slot 0) 0

-- the first unpinned slot from heap place i on, in the places left; past the heap's end there is none
unfoldable pub victim_from : ℕ → ℕ → EvictionHeap → List ℕ → ℕ → Try (Option ℕ)
victim_from zero c h pins i = ok none
victim_from (suc left) c h pins i =
    if leb h.len i then ok none else
    if leb c (at h i).slot then refuse STOP else
    if unpinned pins (at h i).slot then ok (some (at h i).slot) else
    victim_from left c h pins (i + 1)

-- the victim search of access and of reclaim, among the first `places` heap places. Both have made its two tests before, so that these cannot fail there.
unfoldable pub victim_of : ℕ → ℕ → EvictionHeap → List ℕ → Try (Option ℕ)
victim_of places c h pins = do
  need (sized c h) STOP
  need (eqb (length pins) c) PINS
  victim_from places c h pins 0
