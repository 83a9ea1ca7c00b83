-- SPDX-License-Identifier: Apache-2.0
-- Document 02's sentences on the length kept for a chain, as laws of every table, however made up.
use Rattle.std.specs.Prelude.{ℕ, ◌-◌, ◌<◌, ◌≤◌, ◌≡◌, Bool, false, List, length, get_or, set}
use Rattle.std.proofs.Math.Option.{none, some}
use Rattle.basics.specs.Try.{ok, refuse}
use Rattle.basics.specs.Refusals.{STOP}
use Rattle.basics.specs.Members.{In}
use Rattle.key.specs.declared.CacheKey.{CacheKey}
use Rattle.key.specs.Key.{same_key}
use Rattle.key.specs.Bucket.{bucket_of}
use Rattle.index.specs.declared.Index.{Index}
use Rattle.index.specs.Chain.{CHAIN, head_of, length_of, can_insert, remove_index}
use Rattle.state.specs.declared.State.{State}
use Rattle.state.specs.Slots.{slot_at, clean_with}
use Rattle.state.specs.Parts.{with_index}
use Rattle.state.specs.Answers.{After}
use Rattle.state.specs.Find.{find_key}
use Rattle.state.specs.Lookup.{lookup}
use Rattle.state.specs.Access.{access}
use Rattle.state.specs.Reads.{peek_clean}
use Rattle.laws_table.specs.Chains.{Linked}
use Rattle.laws_table.specs.Room.{walked_room}
use Rattle.laws_table.specs.Table.{Inv}

-- the index and the table, with these lengths kept
abbrev pub keeping : Index → List ℕ → Index
keeping ix l = record { heads = ix.heads; lengths = l; buckets = ix.buckets; next = ix.next; free = ix.free; free_len = ix.free_len }

abbrev pub with_lengths : State → List ℕ → State
with_lengths t l = with_index t (keeping t.index l)

-- ── "A made-up table whose kept length differs from a chain that a call walks to its end .. is met with 10." ──
-- the key's chain has an end, no slot of it passes the test, and the length kept for it is another
pub record Miscounted (t : State) (key : CacheKey) (test : ℕ → Bool) : Type 0 where
  pub chain : List ℕ
  pub linked : Linked t.index.next t.capacity (head_of t.index key) chain
  pub unmatched : (x : ℕ) → In x chain → test x ≡ false
  pub differs : length_of t.index key ≡ length chain → ⊥

abbrev pub has_key : State → CacheKey → ℕ → Bool
has_key t key x = same_key (slot_at t x).key key

abbrev pub has_clean : State → CacheKey → ℕ → Bool
has_clean t key x = clean_with (slot_at t x) key

-- the searches then give 10
abbrev pub DiffersIs10 : Type 0
DiffersIs10 =
    ((t : State) (key : CacheKey) → Miscounted t key (has_key t key) → find_key t key ≡ refuse STOP)
    × ((t : State) (key : CacheKey) → Miscounted t key (has_clean t key) → peek_clean t key ≡ refuse STOP)

-- 10, and the table as it was
abbrev pub met_with_10 : {A : Type 0} → State → After A
met_with_10 t = record { table = t; answer = refuse STOP }

-- so do lookup and access (with as many pin bytes as slots: 3 stands before), be loading allowed or not, the chain full or a number spent
abbrev pub CallsMetWith10 : Type 0
CallsMetWith10 =
    (t : State) (key : CacheKey) → Miscounted t key (has_key t key)
    → (lookup t key ≡ met_with_10 t)
    × ((allow : Bool) (pins : List ℕ) → length pins ≡ t.capacity → access t key allow pins ≡ met_with_10 t)

-- the key's chain has an end, after 64 slots at most, and the length kept for it is its length
pub record TrueLength (c : ℕ) (ix : Index) (key : CacheKey) : Type 0 where
  pub chain : List ℕ
  pub linked : Linked ix.next c (head_of ix key) chain
  pub short : length chain ≤ CHAIN
  pub counted : length_of ix key ≡ length chain

-- so a search that finds none has walked a chain whose length is the one kept
abbrev pub NoneIsCounted : Type 0
NoneIsCounted =
    (t : State) (key : CacheKey)
    → (find_key t key ≡ ok none → TrueLength t.capacity t.index key) × (peek_clean t key ≡ ok none → TrueLength t.capacity t.index key)

-- ── "A search or removal that stops at a slot has not walked to the end." ──
-- so its answer is the same whatever lengths are kept
abbrev pub SearchStops : Type 0
SearchStops =
    (t : State) (key : CacheKey) (x : ℕ) (l : List ℕ)
    → (find_key t key ≡ ok (some x) → find_key (with_lengths t l) key ≡ ok (some x))
    × (peek_clean t key ≡ ok (some x) → peek_clean (with_lengths t l) key ≡ ok (some x))

-- and a removal does the same whatever lengths are kept, where the chain's own is above 0: it is then less by one
abbrev pub RemovalStops : Type 0
RemovalStops =
    (c : ℕ) (ix : Index) (key : CacheKey) (x : ℕ) (k : Index) (l : List ℕ) → remove_index c ix key x ≡ ok k
    → let b = bucket_of key ix.buckets in
    0 < get_or l b 0 → remove_index c (keeping ix l) key x ≡ ok (keeping k (set l b (get_or l b 0 - 1)))

-- ── "or would fall below 0, is met with 10" ──
abbrev pub BelowZeroIs10 : Type 0
BelowZeroIs10 = (c : ℕ) (ix : Index) (key : CacheKey) (x : ℕ) → length_of ix key ≡ 0 → remove_index c ix key x ≡ refuse STOP

-- ── "Whether a chain is full is found by walking it on each miss. Keep the length of each chain in the table instead." ──
-- a length that is true tells what the walk told; so it does where a search has found none, before a key is put in
abbrev pub RoomAsWalked : Type 0
RoomAsWalked =
    ((c : ℕ) (ix : Index) (key : CacheKey) → TrueLength c ix key → can_insert c ix key ≡ walked_room c ix key)
    × ((t : State) (key : CacheKey) → find_key t key ≡ ok none → can_insert t.capacity t.index key ≡ walked_room t.capacity t.index key)

-- and on a valid table, where every length is true
abbrev pub RoomOnValid : Type 0
RoomOnValid = (t : State) → Inv t → (key : CacheKey) → can_insert t.capacity t.index key ≡ walked_room t.capacity t.index key
