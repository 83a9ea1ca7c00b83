-- SPDX-License-Identifier: Apache-2.0
-- A sift's step, as a function that the sift is given: what the sift asks of it, and the rule that it follows. `n` is the heap's length, which no swap changes.
use Rattle.std.specs.Prelude.{ℕ, ◌≡◌, ◌<◌}
use Rattle.std.specs.Borrow.{Bor}
use Rattle.eviction.specs.declared.EvictionHeap.{EvictionHeap}

-- it may be called at each place below 256
abbrev pub Callable : ℕ → (Bor EvictionHeap → ℕ → Type 0) → Type 0
Callable n pre = (h : Bor EvictionHeap) (p : ℕ) → h.now.len ≡ n → p < 256 → pre h p

-- it gives such a place
abbrev pub Within : ℕ → (Bor EvictionHeap → ℕ → ℕ → Type 0) → Type 0
Within n post = (h : Bor EvictionHeap) (p r : ℕ) → h.now.len ≡ n → p < 256 → post h p r → r < 256

-- it gives what the rule says
abbrev pub Follows : ℕ → (EvictionHeap → ℕ → ℕ) → (Bor EvictionHeap → ℕ → ℕ → Type 0) → Type 0
Follows n rule post = (h : Bor EvictionHeap) (p r : ℕ) → h.now.len ≡ n → p < 256 → post h p r → r ≡ rule h.now p
