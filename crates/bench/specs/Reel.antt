-- SPDX-License-Identifier: Apache-2.0
-- The keys of a reel that one peek asks for.
use Rattle.std.specs.Prelude.{ℕ, zero, suc, ◌+◌, ◌%◌, ◌^◌, List, [], ◌∷◌}
use Rattle.key.specs.declared.CacheKey.{CacheKey}

-- the key of the page that is `stride` pages on, wrapping at 2^64
abbrev pub further : CacheKey → ℕ → CacheKey
further key stride = record { file = key.file; kind = key.kind; index = (key.index + stride) % 2 ^ 64 }

-- so many keys, from this one on, each `stride` pages behind the one before it
unfoldable pub reel : ℕ → CacheKey → ℕ → List CacheKey
reel zero key stride = []
reel (suc n) key stride = key ∷ reel n (further key stride) stride
