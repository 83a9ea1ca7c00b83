-- SPDX-License-Identifier: Apache-2.0
-- The invariant of the free stack, as `Index::assert_valid` tests it, with the stack seen as a list. `c` is the capacity.
use Rattle.std.specs.Prelude.{ℕ, ◌<◌, ◌≤◌, ◌≡◌, List, map, length, get_or}
use Rattle.std.proofs.Math.Option.{Option, none}
use Rattle.basics.specs.Lists.{down}
use Rattle.basics.specs.Members.{In, Once}
use Rattle.index.specs.declared.Index.{Index}

-- the slots on the stack, the top one first
abbrev pub stack_of : Index → List ℕ
stack_of ix = map (λ i. get_or ix.free i 0) (down ix.free_len)

-- the stack holds exactly the slots that `g` gives no bucket, each once
pub record Stack (c : ℕ) (ix : Index) (g : ℕ → Option ℕ) : Type 0 where
  pub size : length ix.free ≡ 256
  pub fits : ix.free_len ≤ c
  pub once : Once (stack_of ix)
  pub low : (x : ℕ) → In x (stack_of ix) → x < c
  pub empty : (x : ℕ) → In x (stack_of ix) → g x ≡ none
  -- `assert!(seen.into_iter().all(|seen| seen), "unreachable slot")`
  pub complete : (x : ℕ) → x < c → g x ≡ none → In x (stack_of ix)
