-- SPDX-License-Identifier: Apache-2.0
-- Remove and detach are `detach_counted`, by the counters that each leaves. Assumes nothing.
use Prim.Native.Nat.{ℕ, ◌-◌}
use mathlib.Core.Path.{◌≡◌, refl, sym, ap}
use lib.Dec.{ltb, eqb}
use Rattle.basics.specs.Try.{Try, ok, refuse, ◌>>=◌, ◌>>◌}
use Rattle.basics.specs.Refusals.{STOP}
use Rattle.basics.specs.Answers.{Fine, done}
use Rattle.basics.proofs.Tests.{met, went, ok_same, bind_same}
use Rattle.index.specs.declared.Index.{Index}
use Rattle.index.specs.Free.{vacate}
use Rattle.eviction.specs.declared.EvictionHeap.{EvictionHeap}
use Rattle.eviction.specs.Heap.{remove_heap}
use Rattle.state.specs.declared.Counters.{Counters}
use Rattle.state.specs.declared.State.{State}
use Rattle.state.specs.Slots.{slot_at, vacant_slot}
use Rattle.state.specs.Parts.{with_slot, with_index, with_heap, with_counters, with_held, count_eviction}
use Rattle.state.specs.Answers.{After, told, unless_refused}
use Rattle.state.specs.Remove.{detach_clean, remove_clean, need_clean, detach_counted, remove, detach}

-- what a detaching that went on did
pub record Detached (t : State) (slot : ℕ) (u : State) : Type 0 where
  pub heap : EvictionHeap
  pub ix : Index
  pub shorter : remove_heap t.capacity t.eviction slot ≡ ok heap
  pub links : vacate t.capacity t.index (slot_at t slot).key slot ≡ ok ix
  pub same : u ≡ with_held (with_heap (with_index (with_slot t slot vacant_slot) ix) heap) (t.clean - 1) t.loading

pub detached : (t : State) (slot : ℕ) (u : State) → detach_clean t slot ≡ ok u → Detached t slot u
unfolding detach_clean
detached t slot u e =
    let a = met (ltb slot t.capacity) STOP _ u e in
    let b = met (eqb (slot_at t slot).kind 2) STOP _ u a.1 in
    let c = went (remove_heap t.capacity t.eviction slot) _ u b.1 in
    let d = went (vacate t.capacity t.index (slot_at t slot).key slot) _ u c.2 in
    let f = met (ltb 0 t.clean) STOP _ u d.2 in
    record { heap = c.0; ix = d.0; shorter = c.1; links = d.1; same = sym (ok_same f.1) }

-- the counters are not its own
counters_kept : (t : State) (slot : ℕ) (u : State) → detach_clean t slot ≡ ok u → u.counters ≡ t.counters
counters_kept t slot u e = let d = detached t slot u e in cc

recount : (x : Try State) (k : Counters) → ((u : State) → x ≡ ok u → u.counters ≡ k)
    → ((x >>= λ u. ok (with_counters u (count_eviction u.counters))) >>= λ u. ok (told u done))
    ≡ (x >>= λ u. ok (told (with_counters u (count_eviction k)) done))
recount (ok u) k f = rw (f u refl)
recount (refuse n) k f = refl

pub remove_counted : (t : State) (slot : ℕ) → remove t slot ≡ detach_counted t slot (count_eviction t.counters)
unfolding remove remove_clean detach_counted
remove_counted t slot =
    ap (λ (r : Try (After Fine)). unless_refused t (need_clean t slot >> r)) (recount (detach_clean t slot) t.counters (counters_kept t slot))

pub detach_counted_lem : (t : State) (slot : ℕ) → detach t slot ≡ detach_counted t slot t.counters
unfolding detach detach_counted
detach_counted_lem t slot =
    ap (λ (r : Try (After Fine)). unless_refused t (need_clean t slot >> r))
    (bind_same (detach_clean t slot) (λ u. ok (told u done)) (λ u. ok (told (with_counters u t.counters) done)) (λ u e. rw (← counters_kept t slot u e)))
