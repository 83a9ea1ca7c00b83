-- SPDX-License-Identifier: Apache-2.0
-- Under the invariant the first test of the heap's rules passes, and a held slot is found at its place. Assumes nothing.
use Prim.Native.Nat.{ℕ, ◌<◌}
use mathlib.Core.Path.{◌≡◌, sym, ap, ◌∙◌}
use mathlib.Core.Bool.{true}
use mathlib.Core.Option.{Option, some}
use borrow.Author.Tests.{le-leb, lt-ltb, eq-eqb}
use Rattle.basics.specs.Try.{ok}
use Rattle.basics.proofs.Tests.{some_same}
use Rattle.eviction.specs.declared.EvictionHeap.{EvictionHeap}
use Rattle.eviction.specs.Entries.{at, pos_of, sized}
use Rattle.eviction.specs.Heap.{place_of}
use Rattle.laws_table.specs.Heap.{Holds}

pub heap_sized : (c : ℕ) (h : EvictionHeap) (f : ℕ → Option ℕ) → Holds c h f → sized c h ≡ true
unfolding sized
heap_sized c h f r = rw (le-leb c 256 r.small, le-leb h.len c r.fits)

module _ (c : ℕ) (h : EvictionHeap) (f : ℕ → Option ℕ) (r : Holds c h f) (x v : ℕ) (hx : x < c) (fx : f x ≡ some v) where
  pub spot< : pos_of h x < h.len
  spot< = (r.spot x v hx fx).0

  pub spot_slot : (at h (pos_of h x)).slot ≡ x
  spot_slot = (r.spot x v hx fx).1

  pub spot_last : (at h (pos_of h x)).last_access ≡ v
  spot_last = some_same (sym (r.last (pos_of h x) spot<) ∙ ap f spot_slot ∙ fx)

  pub place_of_lem : place_of c h x ≡ ok (pos_of h x)
  unfolding place_of
  place_of_lem = rw (heap_sized c h f r, lt-ltb x c hx, lt-ltb (pos_of h x) h.len spot<, eq-eqb (at h (pos_of h x)).slot x spot_slot)

  -- x stands at its own place only
  pub only : (k : ℕ) → k < h.len → (k ≡ pos_of h x → ⊥) → (at h k).slot ≡ x → ⊥
  only k hk n e = n (sym (r.back k hk) ∙ ap (pos_of h) e)
