-- SPDX-License-Identifier: Apache-2.0
-- The invariant of the table: what its index, stack, heap and counts have to do with its slots. And what a call does to the slots.
use Rattle.std.specs.Prelude.{ℕ, ◌<◌, ◌≤◌, ◌≡◌, Bool, true, List, length, get_or, set, if◌then◌else◌}
use Rattle.std.proofs.Math.Option.{Option, none, some}
use Rattle.basics.specs.Try.{refuse}
use Rattle.basics.specs.Refusals.{STOP}
use Rattle.basics.specs.Lists.{down}
use Rattle.basics.specs.Counts.{count}
use Rattle.key.specs.declared.CacheKey.{CacheKey}
use Rattle.key.specs.Bucket.{bucket_of, bucket_count}
use Rattle.index.specs.declared.Index.{Index}
use Rattle.eviction.specs.declared.EvictionHeap.{EvictionHeap}
use Rattle.state.specs.declared.Slot.{Slot}
use Rattle.state.specs.declared.State.{State}
use Rattle.state.specs.Slots.{vacant_slot, is_loading, is_clean, occupied, slot_at}
use Rattle.state.specs.Answers.{After}
use Rattle.laws_table.specs.Heap.{Heaped, Holds}
use Rattle.laws_table.specs.Chains.{Chains}
use Rattle.laws_table.specs.Stack.{Stack}

-- the last use of a clean slot
unfoldable pub last_of : Slot → Option ℕ
last_of s = if is_clean s then some s.last_access else none

-- the bucket, of n, of an occupied slot's key
unfoldable pub bucket_for : ℕ → Slot → Option ℕ
bucket_for n s = if occupied s then some (bucket_of s.key n) else none

-- the same of the slot with this number
abbrev pub last_in : List Slot → ℕ → Option ℕ
last_in ss x = last_of (get_or ss x vacant_slot)

abbrev pub bucket_in : ℕ → List Slot → ℕ → Option ℕ
bucket_in n ss x = bucket_for n (get_or ss x vacant_slot)

-- how many of the slots below c pass a test
abbrev pub how_many : (Slot → Bool) → List Slot → ℕ → ℕ
how_many p ss c = count (λ (x : ℕ). p (get_or ss x vacant_slot)) (down c)

-- the invariant over the parts: slots, capacity, index, heap, number of clean slots and of loading ones. It does not speak of counters,
-- of generations or of use numbers, so it holds of a table on its way through a resize too.
pub record Parts (ss : List Slot) (c : ℕ) (ix : Index) (h : EvictionHeap) (nc nl : ℕ) : Type 0 where
  pub pos : 0 < c
  pub small : c ≤ 256
  pub size : length ss ≡ 256
  pub rule : ix.buckets ≡ bucket_count c
  -- each occupied slot in the chain of its key's bucket, and in no other
  pub chains : Chains c ix (bucket_in ix.buckets ss)
  -- the vacant slots are those on the stack
  pub stack : Stack c ix (bucket_in ix.buckets ss)
  -- the clean slots are those in the heap, with their last uses
  pub heap : Holds c h (last_in ss)
  pub heaped : Heaped h
  pub clean : nc ≡ how_many is_clean ss c
  pub loading : nl ≡ how_many is_loading ss c

abbrev pub Inv : State → Type 0
Inv t = Parts t.slots t.capacity t.index t.eviction t.clean t.loading

-- no two slots below c hold the same key
abbrev pub Distinct : List Slot → ℕ → Type 0
Distinct ss c =
    (x y : ℕ) → x < c → y < c → occupied (get_or ss x vacant_slot) ≡ true → occupied (get_or ss y vacant_slot) ≡ true
    → (get_or ss x vacant_slot).key ≡ (get_or ss y vacant_slot).key → x ≡ y

-- no slot below c was last used after the use number n
abbrev pub Dated : List Slot → ℕ → ℕ → Type 0
Dated ss c n = (x : ℕ) → x < c → is_clean (get_or ss x vacant_slot) ≡ true → (get_or ss x vacant_slot).last_access ≤ n

-- the whole invariant, with keys distinct and no last use above the last number given
abbrev pub Valid : State → Type 0
Valid t = Inv t × Distinct t.slots t.capacity × Dated t.slots t.capacity t.next_access_sequence

-- what a call leaves: a valid table, and an answer that is not 10
pub record Kept {A : Type 0} (r : After A) : Type 0 where
  pub valid : Valid r.table
  pub runs : r.answer ≡ refuse STOP → ⊥

-- no slot of the table holds the key
abbrev pub Absent : State → CacheKey → Type 0
Absent t key = (x : ℕ) → x < t.capacity → occupied (slot_at t x) ≡ true → (slot_at t x).key ≡ key → ⊥

-- u is t with the slot x anew, and with these: last use number, last generation, number of clean slots and of loading ones
pub record Step (t u : State) (x : ℕ) (s : Slot) (nu ng nc nl : ℕ) : Type 0 where
  pub inv : Inv u
  pub low : x < t.capacity
  pub slots : u.slots ≡ set t.slots x s
  pub capacity : u.capacity ≡ t.capacity
  pub uses : u.next_access_sequence ≡ nu
  pub generations : u.next_load_generation ≡ ng
  pub clean : u.clean ≡ nc
  pub loading : u.loading ≡ nl
