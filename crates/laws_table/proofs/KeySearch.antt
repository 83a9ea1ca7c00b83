-- SPDX-License-Identifier: Apache-2.0
-- The search for a key finds the slot that holds it, or none where none does; and what it does to the table. Assumes nothing.
use Rattle.std.proofs.Common.{if◌then◌else◌}
use Prim.Native.Nat.{ℕ, zero, suc, ◌+◌, ◌<◌, ◌≤◌}
use native.Mathlib.Omega.{arith}
use mathlib.Core.Path.{◌≡◌, refl, sym, ap, ◌∙◌}
use mathlib.Core.Bool.{Bool, true, false≢true}
use mathlib.Core.Option.{Option, none, some}
use lib.Dec.{eqb}
use lib.ListN.{get_or}
use borrow.Author.Tests.{eqb-true, eqb-false, lt-leb, ne_eqb}
use Rattle.basics.specs.Try.{Try, ok, refuse}
use Rattle.basics.specs.Refusals.{EXHAUSTED}
use Rattle.basics.specs.Numbers.{NONE, MAX}
use Rattle.basics.specs.Lists.{first}
use Rattle.basics.specs.Members.{In}
use Rattle.basics.proofs.Tests.{yes!, no!, is}
use Rattle.basics.proofs.Keeps.{hits, fails, look}
use Rattle.key.specs.declared.CacheKey.{CacheKey}
use Rattle.key.specs.Key.{same_key}
use Rattle.key.specs.Bucket.{bucket_of}
use Rattle.key.proofs.Keys.{same_key_lem, key_eq}
use Rattle.index.specs.Chain.{next_of, length_of}
use Rattle.state.specs.declared.State.{State}
use Rattle.state.specs.Slots.{slot_at, clean_slot, is_loading, is_clean, occupied}
use Rattle.state.specs.Parts.{with_counters, count_progress}
use Rattle.state.specs.Find.{Seek, found, waits, absent, ended, find_from, find_key, touch_next, hit_at, seek_at, seek}
use Rattle.laws_table.specs.Table.{Inv, Distinct, Dated, Absent, Step}
use Rattle.laws_table.proofs.ChainWalks.{linked_low}
use Rattle.laws_table.proofs.KeptWalks.{kept_walk}
use Rattle.key.proofs.Buckets.{bucket_low}
use Rattle.laws_table.proofs.SlotKinds.{bucket_occupied, bucket_some, occupied_loading}
use Rattle.laws_table.proofs.TableParts.{sound_inv}
use Rattle.laws_table.proofs.StepHit.{hit_step}

-- ── the chain of a bucket ──
module _ (t : State) (v : Inv t) where
  -- it holds occupied slots whose keys have that bucket
  pub in_chain : (b : ℕ) → b < t.index.buckets → (x : ℕ) → In x (v.chains.chain b) → (x < t.capacity) × (occupied (slot_at t x) ≡ true) × (bucket_of (slot_at t x).key t.index.buckets ≡ b)
  in_chain b hb x m =
      let q = bucket_some t.index.buckets (slot_at t x) b (v.chains.member b x m) in
      (linked_low t.index.next t.capacity (get_or t.index.heads b 0) (v.chains.linked b hb) m, q.0, q.1)

  -- and all of those
  pub chain_in : (x : ℕ) → x < t.capacity → occupied (slot_at t x) ≡ true → In x (v.chains.chain (bucket_of (slot_at t x).key t.index.buckets))
  chain_in x hx e = v.chains.complete (bucket_of (slot_at t x).key t.index.buckets) x hx (bucket_occupied t.index.buckets (slot_at t x) e)

-- ── the search ──
abbrev holds : State → CacheKey → ℕ → Bool
holds t key x = same_key (slot_at t x).key key

find_ends : (t : State) (key : CacheKey) (n : ℕ) → find_from n t key NONE ≡ ended (length_of t.index key) n
unfolding find_from
find_ends t key zero = refl
find_ends t key (suc n) = refl

find_goes : (t : State) (key : CacheKey) → t.capacity ≤ 256 → (n x : ℕ) → x < t.capacity → occupied (slot_at t x) ≡ true
    → find_from (suc n) t key x ≡ (if holds t key x then ok (some x) else find_from n t key (next_of t.index x))
unfolding find_from
find_goes t key hc n x hx ho = rw (ne_eqb x NONE (omega arith), lt-leb t.capacity x hx, ho)

-- what is found: the slot of the key, or none
pub data FindsKey (t : State) (key : CacheKey) (r : Try (Option ℕ)) : Type 0 where
  finds! : (x : ℕ) → x < t.capacity → occupied (slot_at t x) ≡ true → (slot_at t x).key ≡ key → r ≡ ok (some x) → FindsKey t key r
  lacks! : Absent t key → r ≡ ok none → FindsKey t key r

module _ (t : State) (v : Inv t) (key : CacheKey) where
  -- the search of the chain is the search of its list
  find_list : find_key t key ≡ ok (first (holds t key) (v.chains.chain (bucket_of key t.index.buckets)))
  unfolding find_key
  find_list =
      let b : ℕ = bucket_of key t.index.buckets in
      let hb : b < t.index.buckets = bucket_low key t.index.buckets v.chains.some_buckets in
      rw (sound_inv t v) (kept_walk v.chains key (λ n s. find_from n t key s) (holds t key) (find_ends t key)
      (λ n x hx m. find_goes t key v.small n x hx (in_chain t v b hb x m).1))

  pub find_law : FindsKey t key (find_key t key)
  find_law =
      let b : ℕ = bucket_of key t.index.buckets in
      let hb : b < t.index.buckets = bucket_low key t.index.buckets v.chains.some_buckets in
      elim (look (holds t key) (v.chains.chain b)) [
        | fails f h ↦ lacks! (λ x hx e q. false≢true (sym (h x (rw q at (chain_in t v x hx e))) ∙ rw q (same_key_lem key))) (find_list ∙ ap ok f)
        | hits x m q f ↦ let p = in_chain t v b hb x m in finds! x p.0 p.1 (key_eq (slot_at t x).key key q) (find_list ∙ ap ok f)
      ]

  -- where keys are distinct it is the only slot that holds the key
  pub find_holder : Distinct t.slots t.capacity → (x : ℕ) → x < t.capacity → occupied (slot_at t x) ≡ true → (slot_at t x).key ≡ key → find_key t key ≡ ok (some x)
  find_holder d x hx ho ek =
      elim find_law [
        | lacks! n e ↦ absurd (n x hx ho ek)
        | finds! y hy oy ey e ↦ e ∙ ap (λ (z : ℕ). ok (some z)) (d y x hy hx oy ho (ey ∙ sym ek))
      ]

  pub find_none : Absent t key → find_key t key ≡ ok none
  find_none n = elim find_law [ lacks! z e ↦ e | finds! y hy oy ey e ↦ absurd (n y hy oy ey) ]

-- ── what it does to the table ──
pub data Sought (t : State) (key : CacheKey) (r : Try Seek) : Type 0 where
  absent! : Absent t key → r ≡ ok (record { table = t; seen = absent }) → Sought t key r
  waits! : (x : ℕ) → x < t.capacity → is_loading (slot_at t x) ≡ true → (slot_at t x).key ≡ key → r ≡ ok (record { table = with_counters t (count_progress t.counters); seen = waits }) → Sought t key r
  hit! : (x : ℕ) → is_clean (slot_at t x) ≡ true → (slot_at t x).key ≡ key → (u : State) → r ≡ ok (record { table = u; seen = found x })
      → Step t u x (clean_slot key (t.next_access_sequence + 1)) (t.next_access_sequence + 1) t.next_load_generation t.clean t.loading → Sought t key r
  spent! : t.next_access_sequence ≡ MAX → r ≡ refuse EXHAUSTED → Sought t key r

seek_at_lem : (t : State) → Inv t → (key : CacheKey) → Dated t.slots t.capacity t.next_access_sequence → (x : ℕ) → x < t.capacity → occupied (slot_at t x) ≡ true → (slot_at t x).key ≡ key → Sought t key (seek_at t key (some x))
unfolding seek_at
seek_at_lem t v key old x hx ho ek =
    elim (is (is_clean (slot_at t x))) [
      | no! e ↦ rw e (waits! x hx (occupied_loading (slot_at t x) ho e) ek refl)
      | yes! e ↦ elim (is (eqb t.next_access_sequence MAX)) [
        | yes! w ↦ rw e (spent! (eqb-true t.next_access_sequence MAX w) (hit_spent w))
        | no! w ↦ let (u, q, s) = hit_step t v x hx key e ek (omega (arith, old x hx e)) (eqb-false t.next_access_sequence MAX w) in rw e (hit! x e ek u q s)
      ]
    ]
  where
    hit_spent : eqb t.next_access_sequence MAX ≡ true → hit_at t key x ≡ refuse EXHAUSTED
    hit_spent w = unfold hit_at touch_next in rw w

pub sought : (t : State) → Inv t → (key : CacheKey) → Dated t.slots t.capacity t.next_access_sequence → Sought t key (seek t key)
unfolding seek seek_at
sought t v key old =
    elim (find_law t v key) [
      | lacks! n e ↦ rw e (absent! n refl)
      | finds! x hx ho ek e ↦ rw e (seek_at_lem t v key old x hx ho ek)
    ]
