-- SPDX-License-Identifier: Apache-2.0
-- The invariant of the index's chains, as `Index::assert_valid` tests it, and of the lengths kept for them, with each chain seen as a list. `c` is the
-- capacity.
use Rattle.std.specs.Prelude.{ℕ, ◌<◌, ◌≤◌, ◌≡◌, List, [], ◌∷◌, length, get_or}
use Rattle.std.proofs.Math.Option.{Option, none, some}
use Rattle.basics.specs.Numbers.{NONE}
use Rattle.basics.specs.Members.{In, Once}
use Rattle.index.specs.declared.Index.{Index}
use Rattle.index.specs.Chain.{CHAIN, next_of}

-- from the link `s` on, `next` leads through the slots of the list, all below c, and ends there
abbrev pub Linked : List ℕ → ℕ → ℕ → List ℕ → Type 0
Linked next c s [] = s ≡ NONE
Linked next c s (x ∷ xs) = (s ≡ x) × (x < c) × Linked next c (get_or next x 0) xs

-- the chains hold exactly the slots that `g` gives a bucket, each once, in the chain of its bucket, and the length kept for a bucket is its chain's
pub record Chains (c : ℕ) (ix : Index) (g : ℕ → Option ℕ) : Type 0 where
  pub size_heads : length ix.heads ≡ 512
  pub size_lengths : length ix.lengths ≡ 512
  pub size_next : length ix.next ≡ 256
  pub small : c ≤ 256
  pub some_buckets : 0 < ix.buckets
  pub few_buckets : ix.buckets ≤ 512
  pub chain : ℕ → List ℕ
  pub linked : (b : ℕ) → b < ix.buckets → Linked ix.next c (get_or ix.heads b 0) (chain b)
  pub once : (b : ℕ) → Once (chain b)
  -- "A chain holds at most 64 slots."
  pub short : (b : ℕ) → length (chain b) ≤ CHAIN
  -- document 02: "Keep the length of each chain in the table instead."
  pub counted : (b : ℕ) → b < ix.buckets → get_or ix.lengths b 0 ≡ length (chain b)
  pub member : (b x : ℕ) → In x (chain b) → g x ≡ some b
  pub complete : (b x : ℕ) → x < c → g x ≡ some b → In x (chain b)
  -- a slot of no chain links to nothing
  pub loose : (x : ℕ) → x < c → g x ≡ none → next_of ix x ≡ NONE
