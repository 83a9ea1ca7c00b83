-- SPDX-License-Identifier: Apache-2.0
-- The invariant of the eviction heap, as `EvictionHeap::assert_valid` tests it. `c` is the capacity.
use Rattle.std.specs.Prelude.{ℕ, ◌+◌, ◌-◌, ◌*◌, ◌/◌, ◌<◌, ◌≤◌, ◌≡◌, length}
use Rattle.std.proofs.Math.Option.{Option, none, some}
use Rattle.basics.specs.Numbers.{NONE}
use Rattle.eviction.specs.declared.Entry.{Entry}
use Rattle.eviction.specs.declared.EvictionHeap.{EvictionHeap}
use Rattle.eviction.specs.Entries.{at, pos_of}

-- one number for an entry: the older entry has the smaller, where slots are below 65536
unfoldable pub rank : Entry → ℕ
rank e = e.last_access * 65536 + e.slot

-- the rank of the entry at a place
unfoldable pub rank_at : EvictionHeap → ℕ → ℕ
rank_at h k = rank (at h k)

-- the place above
abbrev pub parent : ℕ → ℕ
parent k = (k - 1) / 2

-- the heap's order: no entry is older than the one above it
abbrev pub Heaped : EvictionHeap → Type 0
Heaped h = (k : ℕ) → 0 < k → k < h.len → rank_at h (parent k) ≤ rank_at h k

-- the heap holds exactly the slots that `f` gives a last use, each once, and `positions` has the place of each
pub record Holds (c : ℕ) (h : EvictionHeap) (f : ℕ → Option ℕ) : Type 0 where
  pub size_entries : length h.entries ≡ 256
  pub size_positions : length h.positions ≡ 256
  pub small : c ≤ 256
  pub fits : h.len ≤ c
  pub low : (i : ℕ) → i < h.len → (at h i).slot < c
  -- `assert_eq!(self.positions[entry.slot], position)`: so no slot stands twice
  pub back : (i : ℕ) → i < h.len → pos_of h (at h i).slot ≡ i
  -- `assert_eq!(last_access(entry.slot), Some(entry.last_access))`
  pub last : (i : ℕ) → i < h.len → f (at h i).slot ≡ some (at h i).last_access
  -- a slot with a last use has a place, and the entry there names it
  pub spot : (s u : ℕ) → s < c → f s ≡ some u → (pos_of h s < h.len) × ((at h (pos_of h s)).slot ≡ s)
  -- a slot without one has none
  pub gone : (s : ℕ) → s < c → f s ≡ none → pos_of h s ≡ NONE
