-- SPDX-License-Identifier: Apache-2.0
-- `index_chains::remove` meets its contract: the rest of the search answers what the whole search does. Assumes nothing.
use Prim.Native.Nat.{◌-◌, ◌<◌}
use mathlib.Core.Path.{◌≡◌}
use Rattle.std.specs.Prelude.{IfSome}
use Rattle.index.specs.Chain.{CHAIN, remove_from, remove_index}
use Rattle.index_chains.proofs.Cases.{place_of}
use Rattle.index_chains.proofs.remove.Given as goal

abbrev pub invariant-loop : goal.invariant-loop
invariant-loop l = record {
  same : l.index ≡ l.fn.index;
  inside : IfSome l.previous (λ place. place < 256);
  rest : remove_from (CHAIN - l.counter) l.capacity l.fn.index l.bucket l.target (place_of l.previous) l.slot ≡ remove_index l.capacity l.fn.index l.fn.key l.target;
}
