-- SPDX-License-Identifier: Apache-2.0
-- "Else the top of the free stack; else the first unpinned slot among the first min(clean, 64) heap places".
-- `c` is the capacity, `clean` the number of clean slots.
use Rattle.std.specs.Prelude.{ℕ, min, List}
use Rattle.std.proofs.Math.Option.{Option, none, some}
use Rattle.basics.specs.Try.{Try, ok, ◌>>=◌}
use Rattle.index.specs.declared.Index.{Index}
use Rattle.index.specs.Free.{top_vacant}
use Rattle.eviction.specs.declared.EvictionHeap.{EvictionHeap}
use Rattle.eviction.specs.Victim.{victim_of}

-- "the first min(clean, 64) heap places"
abbrev pub PLACES : ℕ
PLACES = 64

-- the victim search of access and of reclaim
unfoldable pub victim : ℕ → EvictionHeap → ℕ → List ℕ → Try (Option ℕ)
victim c h clean pins = victim_of (min clean PLACES) c h pins

-- the top, else a victim
unfoldable pub target_or : ℕ → EvictionHeap → ℕ → List ℕ → Option ℕ → Try (Option ℕ)
target_or c h clean pins none = victim c h clean pins
target_or c h clean pins (some slot) = ok (some slot)

-- "the top of the free stack; else the first unpinned slot"
unfoldable pub target : ℕ → Index → EvictionHeap → ℕ → List ℕ → Try (Option ℕ)
target c ix h clean pins = do
  top ← top_vacant c ix
  target_or c h clean pins top
