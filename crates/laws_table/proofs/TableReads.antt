-- SPDX-License-Identifier: Apache-2.0
-- The reads do not give 10: `peek_clean` finds the clean slot of a key, `oldest_clean` a clean slot whose last use is the least. Assumes nothing.
use Rattle.std.proofs.Common.{if◌then◌else◌}
use Prim.Native.Nat.{ℕ, zero, suc, ◌<◌, ◌≤◌}
use native.Mathlib.Omega.{arith}
use mathlib.Core.Path.{◌≡◌, refl, sym, ap, ◌∙◌}
use mathlib.Core.Bool.{Bool, true, false, ◌&&◌, false≢true}
use mathlib.Core.Option.{Option, none, some}
use lib.Dec.{ltb, eqb}
use borrow.Author.Tests.{eqb-true, eqb-false, lt-ltb, le-ltb, lt-leb, ne_eqb}
use Rattle.basics.specs.Try.{Try, ok, refuse}
use Rattle.basics.specs.Refusals.{STALE}
use Rattle.basics.specs.Numbers.{NONE}
use Rattle.basics.specs.Lists.{first}
use Rattle.basics.specs.Answers.{done}
use Rattle.basics.proofs.Tests.{yes!, no!, is, and_left, and_right}
use Rattle.basics.proofs.Keeps.{hits, fails, look}
use Rattle.key.specs.declared.CacheKey.{CacheKey}
use Rattle.key.specs.Key.{same_key}
use Rattle.key.specs.Bucket.{bucket_of}
use Rattle.key.proofs.Keys.{same_key_lem, key_eq}
use Rattle.index.specs.Chain.{next_of, length_of}
use Rattle.eviction.specs.Entries.{at, pos_of}
use Rattle.eviction.specs.Victim.{candidate_at, oldest_of}
use Rattle.state.specs.declared.State.{State}
use Rattle.state.specs.declared.LoadToken.{LoadToken}
use Rattle.state.specs.Slots.{slot_at, is_clean, clean_with}
use Rattle.state.specs.Tokens.{outstanding}
use Rattle.state.specs.Find.{ended}
use Rattle.state.specs.Reads.{validate, peek_from, peek_clean, clean_entry, cold_candidate, oldest_clean}
use Rattle.laws_table.specs.Heap.{rank, rank_at}
use Rattle.laws_table.specs.Table.{last_in, Inv}
use Rattle.laws_table.proofs.Ranks.{root_places}
use Rattle.laws_table.proofs.HeapSizes.{heap_sized}
use Rattle.laws_table.proofs.KeptWalks.{kept_walk}
use Rattle.key.proofs.Buckets.{bucket_low}
use Rattle.laws_table.proofs.SlotKinds.{clean_occupied}
use Rattle.laws_table.proofs.TableParts.{at_place, place_of_lem, sound_inv}
use Rattle.laws_table.proofs.KeySearch.{in_chain, chain_in}

-- ── peek_clean ──
abbrev has : State → CacheKey → ℕ → Bool
has t key x = clean_with (slot_at t x) key

peek_ends : (t : State) (key : CacheKey) (n : ℕ) → peek_from n t key NONE ≡ ended (length_of t.index key) n
unfolding peek_from
peek_ends t key zero = refl
peek_ends t key (suc n) = refl

peek_goes : (t : State) (key : CacheKey) → t.capacity ≤ 256 → (n x : ℕ) → x < t.capacity
    → peek_from (suc n) t key x ≡ (if has t key x then ok (some x) else peek_from n t key (next_of t.index x))
unfolding peek_from
peek_goes t key hc n x hx = rw (ne_eqb x NONE (omega arith), lt-leb t.capacity x hx)

clean_with_lem : (t : State) (key : CacheKey) (x : ℕ) → has t key x ≡ true → (is_clean (slot_at t x) ≡ true) × ((slot_at t x).key ≡ key)
unfolding clean_with
clean_with_lem t key x e =
    (and_left (is_clean (slot_at t x)) (same_key (slot_at t x).key key) e, key_eq (slot_at t x).key key (and_right (is_clean (slot_at t x)) (same_key (slot_at t x).key key) e))

with_clean : (t : State) (key : CacheKey) (x : ℕ) → is_clean (slot_at t x) ≡ true → (slot_at t x).key ≡ key → has t key x ≡ true
unfolding clean_with
with_clean t key x e q = rw (e, q) (same_key_lem key)

-- the clean slot of the key, or none
pub data PeeksKey (t : State) (key : CacheKey) (r : Try (Option ℕ)) : Type 0 where
  peeks! : (x : ℕ) → x < t.capacity → is_clean (slot_at t x) ≡ true → (slot_at t x).key ≡ key → r ≡ ok (some x) → PeeksKey t key r
  lacks! : ((x : ℕ) → x < t.capacity → is_clean (slot_at t x) ≡ true → (slot_at t x).key ≡ key → ⊥) → r ≡ ok none → PeeksKey t key r

-- a clean slot whose last use is the least, or none
pub data Oldest (t : State) (r : Try (Option ℕ)) : Type 0 where
  oldest! : (x : ℕ) → x < t.capacity → is_clean (slot_at t x) ≡ true → ((y : ℕ) → y < t.capacity → is_clean (slot_at t y) ≡ true → (slot_at t x).last_access ≤ (slot_at t y).last_access) → r ≡ ok (some x) → Oldest t r
  no_clean! : ((y : ℕ) → y < t.capacity → is_clean (slot_at t y) ≡ true → ⊥) → r ≡ ok none → Oldest t r

module _ (t : State) (v : Inv t) where
  module _ (key : CacheKey) where
    peek_list : peek_clean t key ≡ ok (first (has t key) (v.chains.chain (bucket_of key t.index.buckets)))
    unfolding peek_clean
    peek_list =
        rw (sound_inv t v) (kept_walk v.chains key (λ n s. peek_from n t key s) (has t key) (peek_ends t key) (λ n x hx m. peek_goes t key v.small n x hx))

    pub peek_law : PeeksKey t key (peek_clean t key)
    peek_law =
        let b : ℕ = bucket_of key t.index.buckets in
        let hb : b < t.index.buckets = bucket_low key t.index.buckets v.chains.some_buckets in
        elim (look (has t key) (v.chains.chain b)) [
          | fails f h ↦ lacks! (λ x hx e q. false≢true (sym (h x (rw q at (chain_in t v x hx (clean_occupied (slot_at t x) e)))) ∙ with_clean t key x e q)) (peek_list ∙ ap ok f)
          | hits x m q f ↦ let c = clean_with_lem t key x q in peeks! x (in_chain t v b hb x m).0 c.0 c.1 (peek_list ∙ ap ok f)
        ]

  -- ── the heap's places ──
  pub cold_law : (i : ℕ) → i < t.eviction.len → cold_candidate t i ≡ ok (some (at t.eviction i).slot)
  unfolding cold_candidate candidate_at
  cold_law i hi = rw (sound_inv t v, heap_sized t.capacity t.eviction (last_in t.slots) v.heap, lt-ltb i t.eviction.len hi)

  pub cold_none : (i : ℕ) → t.eviction.len ≤ i → cold_candidate t i ≡ ok none
  unfolding cold_candidate candidate_at
  cold_none i hi = rw (sound_inv t v, heap_sized t.capacity t.eviction (last_in t.slots) v.heap, le-ltb i t.eviction.len hi)

  oldest_cold : oldest_clean t ≡ cold_candidate t 0
  unfolding oldest_clean oldest_of cold_candidate
  oldest_cold = refl

  -- the root is no younger than any clean slot
  root_oldest : 0 < t.eviction.len → (y : ℕ) → y < t.capacity → is_clean (slot_at t y) ≡ true → (slot_at t (at t.eviction 0).slot).last_access ≤ (slot_at t y).last_access
  unfolding rank_at rank
  root_oldest pos y hy e =
      let (hj, ej) = place_of_lem v y hy e in
      let (l0, c0, d0) = at_place v 0 pos in
      let (lj, cj, dj) = at_place v (pos_of t.eviction y) hj in
      let same : (slot_at t (at t.eviction (pos_of t.eviction y)).slot).last_access ≡ (slot_at t y).last_access = ap (λ (s : ℕ). (slot_at t s).last_access) ej in
      omega (arith, root_places t.eviction v.heaped (pos_of t.eviction y) hj, v.small)

  pub oldest_law : Oldest t (oldest_clean t)
  oldest_law =
      elim (is (eqb t.eviction.len 0)) [
        | yes! e ↦ let z = eqb-true t.eviction.len 0 e in no_clean! (λ y hy c. let q = place_of_lem v y hy c in omega arith) (oldest_cold ∙ cold_none 0 (omega arith))
        | no! e ↦
            let pos : 0 < t.eviction.len = omega (arith, eqb-false t.eviction.len 0 e) in
            let p = at_place v 0 pos in
            oldest! (at t.eviction 0).slot p.0 p.1 (root_oldest pos) (oldest_cold ∙ cold_law 0 pos)
      ]

  -- ── one slot ──
  pub entry_law : (x : ℕ) → x < t.capacity → is_clean (slot_at t x) ≡ true → clean_entry t x ≡ ok (some (record { key = (slot_at t x).key; last = (slot_at t x).last_access }))
  unfolding clean_entry
  entry_law x hx e = rw (sound_inv t v, lt-ltb x t.capacity hx, e)

  pub entry_none : (x : ℕ) → (ltb x t.capacity && is_clean (slot_at t x)) ≡ false → clean_entry t x ≡ ok none
  unfolding clean_entry
  entry_none x e = rw (sound_inv t v, e)

  pub validate_law : (k : LoadToken) → outstanding t k ≡ true → validate t k ≡ ok done
  unfolding validate
  validate_law k e = rw (sound_inv t v, e)

  pub validate_stale : (k : LoadToken) → outstanding t k ≡ false → validate t k ≡ refuse STALE
  unfolding validate
  validate_stale k e = rw (sound_inv t v, e)
