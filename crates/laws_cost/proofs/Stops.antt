-- SPDX-License-Identifier: Apache-2.0
-- The steps of a remaking refuse by 10 alone, on every table. Assumes nothing.
use Rattle.std.proofs.Common.{if◌then◌else◌}
use Prim.Native.Nat.{ℕ, zero, suc, ◌+◌, ◌*◌}
use mathlib.Core.Path.{◌≡◌, refl, sym, ◌∙◌}
use mathlib.Core.Bool.{Bool, true, false}
use mathlib.Core.List.{List}
use mathlib.Core.Option.{Option, none, some}
use Rattle.basics.specs.Try.{Try, ok, refuse, ◌>>=◌, ◌>>◌, need}
use Rattle.basics.specs.Refusals.{STOP}
use Rattle.basics.specs.Lists.{each_slot}
use Rattle.basics.proofs.Tests.{refuse_ok}
use Rattle.key.specs.declared.CacheKey.{CacheKey}
use Rattle.index.specs.declared.Index.{Index}
use Rattle.index.specs.Chain.{can_insert, insert_index, remove_from, remove_index, next_of}
use Rattle.index.specs.Free.{top_vacant, take_vacant, release_index, vacate}
use Rattle.eviction.specs.declared.EvictionHeap.{EvictionHeap}
use Rattle.eviction.specs.Sift.{swapped, sift_from}
use Rattle.eviction.specs.Heap.{insert_heap, place_of, settle, remove_at, remove_heap}
use Rattle.state.specs.declared.State.{State}
use Rattle.state.specs.Reads.{peek_from, peek_clean}
use Rattle.state.specs.Remove.{detach_clean, remove_clean}
use Rattle.maintenance_restore.specs.Restore.{restore_into, restore, and_on, restore_pinned, or_else, candidate}
use Rattle.maintenance_resize.specs.Move.{Moving, leave_to, leave_pinned, drop_oldest, restore_unless, restore_rest, move_or_remove, move_rest}

-- a result that, where it is a refusal, is 10
pub record OnlyStop {A : Type 0} (x : Try A) : Type 0 where
  pub by : (n : ℕ) → x ≡ refuse n → n ≡ STOP

pub refuse_same : {A : Type 0} {m n : ℕ} → ◌≡◌ {A = Try A} (refuse m) (refuse n) → m ≡ n
refuse_same e = cc

-- ── results, tests and steps ──
pub gave : {A : Type 0} (a : A) → OnlyStop (ok a)
gave a = record { by = λ n e. absurd (refuse_ok (sym e)) }

stop : {A : Type 0} → OnlyStop {A = A} (refuse STOP)
stop = record { by = λ n e. sym (refuse_same e) }

either : {A : Type 0} (b : Bool) {x y : Try A} → OnlyStop x → OnlyStop y → OnlyStop (if b then x else y)
either true p q = p
either false p q = q

past : {A : Type 0} (b : Bool) {y : Try A} → OnlyStop y → OnlyStop (need b STOP >> y)
past true p = p
past false p = stop

on : {A B : Type 0} (x : Try A) (f : A → Try B) → OnlyStop x → ((a : A) → OnlyStop (f a)) → OnlyStop (x >>= f)
on (ok a) f p h = h a
on (refuse m) f p h = record { by = λ n e. sym (refuse_same e) ∙ p.by m refl }

-- ── the index ──
top_stops : (c : ℕ) (ix : Index) → OnlyStop (top_vacant c ix)
unfolding top_vacant
top_stops c ix = past _ (either _ (gave _) (gave _))

take_stops : (c : ℕ) (ix : Index) (slot : ℕ) → OnlyStop (take_vacant c ix slot)
unfolding take_vacant
take_stops c ix slot = past _ (past _ (gave _))

room_stops : (c : ℕ) (ix : Index) (key : CacheKey) → OnlyStop (can_insert c ix key)
unfolding can_insert
room_stops c ix key = past _ (gave _)

insert_stops : (c : ℕ) (ix : Index) (key : CacheKey) (slot : ℕ) → OnlyStop (insert_index c ix key slot)
unfolding insert_index
insert_stops c ix key slot = past _ (past _ (on _ _ (room_stops c ix key) (λ room. past room (gave _))))

from_stops : (left c : ℕ) (ix : Index) (b target previous slot : ℕ) → OnlyStop (remove_from left c ix b target previous slot)
unfolding remove_from
from_stops zero c ix b target previous slot = stop
from_stops (suc left) c ix b target previous slot =
    either _ stop (either _ (gave _) (from_stops left c ix b target slot (next_of ix slot)))

vacate_stops : (c : ℕ) (ix : Index) (key : CacheKey) (slot : ℕ) → OnlyStop (vacate c ix key slot)
unfolding vacate remove_index release_index
vacate_stops c ix key slot =
    on _ _ (past _ (past _ (from_stops _ _ _ _ _ _ _))) (λ cut. past _ (past _ (gave _)))

-- ── the heap ──
sift_stops : (next : EvictionHeap → ℕ → ℕ) (left c : ℕ) (h : EvictionHeap) (p : ℕ) → OnlyStop (sift_from next left c h p)
unfolding sift_from swapped
sift_stops next zero c h p = gave h
sift_stops next (suc left) c h p = either _ (gave h) (on _ _ (past _ (gave _)) (λ k. sift_stops next left c k (next h p)))

heap_in_stops : (c : ℕ) (h : EvictionHeap) (slot n : ℕ) → OnlyStop (insert_heap c h slot n)
unfolding insert_heap
heap_in_stops c h slot n = past _ (past _ (sift_stops _ _ _ _ _))

place_stops : (c : ℕ) (h : EvictionHeap) (slot : ℕ) → OnlyStop (place_of c h slot)
unfolding place_of
place_stops c h slot = past _ (past _ (gave _))

settle_stops : (c : ℕ) (h : EvictionHeap) (p : ℕ) → OnlyStop (settle c h p)
unfolding settle
settle_stops c h p = either _ (sift_stops _ _ _ _ _) (sift_stops _ _ _ _ _)

out_at_stops : (c : ℕ) (h : EvictionHeap) (slot p : ℕ) → OnlyStop (remove_at c h slot p)
unfolding remove_at
out_at_stops c h slot p = either _ (gave _) (past _ (settle_stops _ _ _))

heap_out_stops : (c : ℕ) (h : EvictionHeap) (slot : ℕ) → OnlyStop (remove_heap c h slot)
unfolding remove_heap
heap_out_stops c h slot = on _ _ (place_stops c h slot) (λ p. out_at_stops c h slot p)

-- ── the table ──
detach_stops : (t : State) (slot : ℕ) → OnlyStop (detach_clean t slot)
unfolding detach_clean
detach_stops t slot =
    past _ (past _ (on _ _ (heap_out_stops _ _ _) (λ h. on _ _ (vacate_stops _ _ _ _) (λ ix. past _ (gave _)))))

remove_stops : (t : State) (slot : ℕ) → OnlyStop (remove_clean t slot)
unfolding remove_clean
remove_stops t slot = on _ _ (detach_stops t slot) (λ u. gave _)

peek_from_stops : (left : ℕ) (t : State) (key : CacheKey) (slot : ℕ) → OnlyStop (peek_from left t key slot)
unfolding peek_from
peek_from_stops zero t key slot = either _ (either _ (gave _) stop) stop
peek_from_stops (suc left) t key slot =
    either _ (either _ (gave _) stop) (either _ stop (either _ (gave _) (peek_from_stops left t key (next_of t.index slot))))

peek_stops : (t : State) (key : CacheKey) → OnlyStop (peek_clean t key)
unfolding peek_clean
peek_stops t key = past _ (peek_from_stops _ t key _)

-- ── the pinned keys ──
into_stops : (t : State) (key : CacheKey) (n : ℕ) (at : Option ℕ) → OnlyStop (restore_into t key n at)
unfolding restore_into
into_stops t key n none = gave _
into_stops t key n (some slot) =
    on _ _ (take_stops _ _ _) (λ took. on _ _ (insert_stops _ _ _ _) (λ ix. on _ _ (heap_in_stops _ _ _ _) (λ h. past _ (gave _))))

restore_stops : (t : State) (key : CacheKey) (n : ℕ) → OnlyStop (restore t key n)
unfolding restore
restore_stops t key n =
    on _ _ (room_stops _ _ _) (λ room. either _ (gave _) (on _ _ (top_stops _ _) (λ top. into_stops t key n top)))

and_on_stops : (u : Option State) (f : State → Try (Option State)) → ((v : State) → OnlyStop (f v)) → OnlyStop (and_on u f)
and_on_stops none f h = gave none
and_on_stops (some v) f h = h v

pinned_stops : (left : ℕ) (old : State) (pins : List ℕ) (slot : ℕ) (t : State) → OnlyStop (restore_pinned left old pins slot t)
unfolding restore_pinned
pinned_stops zero old pins slot t = gave _
pinned_stops (suc left) old pins slot t =
    either _ (pinned_stops left old pins (slot + 1) t)
    (on _ _ (restore_stops _ _ _) (λ u. and_on_stops u _ (λ v. pinned_stops left old pins (slot + 1) v)))

or_else_stops : (u : Option State) (r : Try (Option State)) → OnlyStop r → OnlyStop (or_else u r)
or_else_stops none r p = p
or_else_stops (some t) r p = gave _

pub candidate_stops : (left : ℕ) (old : State) (pins : List ℕ) (shrinking : Bool) (c : ℕ) → OnlyStop (candidate left old pins shrinking c)
unfolding candidate
candidate_stops zero old pins shrinking c = gave _
candidate_stops (suc left) old pins shrinking c =
    on _ _ (pinned_stops _ old pins _ _)
    (λ fits. or_else_stops fits _ (either _ (candidate_stops left old pins shrinking (c * 2)) (gave _)))

-- ── the four `for`s ──
leave_to_stops : (slot : ℕ) (m : Moving) (to : Option ℕ) → OnlyStop (leave_to slot m to)
unfolding leave_to
leave_to_stops slot m none = gave m
leave_to_stops slot m (some to) = on _ _ (detach_stops _ _) (λ left. gave _)

pub leave_stops : (slot : ℕ) (m : Moving) → OnlyStop (leave_pinned slot m)
unfolding leave_pinned
leave_stops slot m = either _ (gave m) (on _ _ (peek_stops _ _) (λ to. leave_to_stops slot m to))

pub drop_stops : (left : ℕ) (m : Moving) → OnlyStop (drop_oldest left m)
unfolding drop_oldest
drop_stops zero m = stop
drop_stops (suc left) m = either _ (gave m) (past _ (on _ _ (remove_stops _ _) (λ u. drop_stops left _)))

unless_stops : (slot : ℕ) (m : Moving) (to : Option ℕ) → OnlyStop (restore_unless slot m to)
unfolding restore_unless
unless_stops slot m none = on _ _ (restore_stops _ _ _) (λ u. gave _)
unless_stops slot m (some to) = gave m

pub rest_stops : (slot : ℕ) (m : Moving) → OnlyStop (restore_rest slot m)
unfolding restore_rest
rest_stops slot m = either _ (gave m) (on _ _ (peek_stops _ _) (λ to. unless_stops slot m to))

or_remove_stops : (slot : ℕ) (m : Moving) (to : Option ℕ) → OnlyStop (move_or_remove slot m to)
unfolding move_or_remove
or_remove_stops slot m none = on _ _ (remove_stops _ _) (λ u. gave _)
or_remove_stops slot m (some to) = gave _

pub move_stops : (slot : ℕ) (m : Moving) → OnlyStop (move_rest slot m)
unfolding move_rest
move_stops slot m = either _ (gave m) (on _ _ (peek_stops _ _) (λ to. or_remove_stops slot m to))

pub each_stops : {A : Type 0} (step : ℕ → A → Try A) → ((slot : ℕ) (a : A) → OnlyStop (step slot a))
    → (left slot : ℕ) (a : A) → OnlyStop (each_slot step left slot a)
unfolding each_slot
each_stops step h zero slot a = gave a
each_stops step h (suc left) slot a = on _ _ (h slot a) (λ b. each_stops step h left (slot + 1) b)
