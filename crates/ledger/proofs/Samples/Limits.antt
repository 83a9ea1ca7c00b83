-- SPDX-License-Identifier: Apache-2.0
-- The ledger's 64, at its edge: with 63 clean keys pinned some unpinned key goes, with 64 CapacityBusy may come; 63 keys of a bucket leave a
-- vacancy, 64 do not. Assumes nothing.
use Prim.Native.Nat.{ℕ, zero, suc, ◌+◌, ◌-◌, ◌*◌, ◌/◌, ◌^◌}
use mathlib.Core.Path.{◌≡◌, refl}
use mathlib.Core.Bool.{true, false}
use mathlib.Core.List.{List, [], ◌∷◌, ◌++◌}
use lib.ListN.{replicate}
use Rattle.basics.specs.Try.{ok}
use Rattle.key.specs.declared.CacheKey.{CacheKey}
use Rattle.state.specs.Answers.{busy}
use Rattle.ledger.specs.Ledger.{Held, Ledger}
use Rattle.ledger.specs.Expect.{exactly, vacancy, one_goes, expect}
use Rattle.ledger.specs.Opened.{opened}
use Rattle.ledger.proofs.Samples.Words.{key, mate}

-- n clean keys of a family, each with its own slot and last use
unfoldable many : (ℕ → CacheKey) → ℕ → List Held
many k zero = []
many k (suc n) = record { key = k n; slot = n; clean = true; last = n + 1 } ∷ many k n

abbrev ledger : ℕ → List Held → Ledger
ledger c hs = record { capacity = c; held = hs; uses = 300; generations = 300; given = []; ended = [] }

-- ── pinned keys ──
sixty_three_pinned : expect (ledger 65 (many key 65)) (key 1000) true (replicate 63 1 ++ replicate 2 0) ≡ one_goes false
unfolding opened many
sixty_three_pinned = refl

sixty_four_pinned : expect (ledger 65 (many key 65)) (key 1000) true (replicate 64 1 ++ replicate 1 0) ≡ one_goes true
unfolding opened many
sixty_four_pinned = refl

-- ── keys of a bucket of 512: files in a row, whose sums are equal ──
sixty_three_share : expect (ledger 256 (many (mate 2048) 63)) (mate 2048 64) true (replicate 256 0) ≡ vacancy
unfolding opened many
sixty_three_share = refl

sixty_four_share : expect (ledger 256 (many (mate 2048) 64)) (mate 2048 64) true (replicate 256 0) ≡ exactly (ok busy)
unfolding opened many
sixty_four_share = refl

-- files to 2^64: the upper five bits of each come in below, and the page takes them away again
abbrev round : ℕ → CacheKey
round n = record { file = n * 2 ^ 58; kind = 0; index = 2048 - n / 2 }

sixty_four_round : expect (ledger 256 (many round 64)) (mate 2048 64) true (replicate 256 0) ≡ exactly (ok busy)
unfolding opened many
sixty_four_round = refl
