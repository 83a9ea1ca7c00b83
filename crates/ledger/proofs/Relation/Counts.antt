-- SPDX-License-Identifier: Apache-2.0
-- The ledger's keys are as many as the table's occupied slots, and those that share a key's bucket as many as its chain has slots.
-- Assumes nothing.
use Prim.Native.Nat.{ℕ, ◌+◌, ◌<◌, ◌≤◌}
use native.Mathlib.Omega.{arith}
use mathlib.Core.Path.{◌≡◌, sym, ap, ◌∙◌, subst}
use mathlib.Core.Bool.{Bool}
use mathlib.Core.List.{List}
use lib.Dec.{eqb}
use lib.ListN.{length, length-map}
use borrow.Author.Tests.{eqb-true, eq-eqb}
use Rattle.basics.specs.Lists.{keep}
use Rattle.basics.specs.Members.{In}
use Rattle.basics.proofs.Members.{in_map, map_in, inject}
use Rattle.basics.proofs.Keeps.{in_keep, keep_in}
use Rattle.key.specs.declared.CacheKey.{CacheKey}
use Rattle.key.specs.Bucket.{bucket_of, bucket_count}
use Rattle.state.specs.declared.State.{State}
use Rattle.state.specs.Slots.{slot_at}
use Rattle.key.proofs.Buckets.{bucket_low}
use Rattle.laws_table.proofs.StepReserve.{chain_of}
use Rattle.laws_table.proofs.KeySearch.{in_chain, chain_in}
use Rattle.ledger.specs.Ledger.{Held, Ledger}
use Rattle.ledger.specs.Expect.{sharing}
use Rattle.ledger.proofs.Keys.Apart.{apart_keep, slots_of, once_slots}
use Rattle.ledger.proofs.Relation.Placed.{Placed, placed_count}
use Rattle.ledger.proofs.Relation.Agree.{Agree, below, shown_key, shows, held_in}

module _ (t : State) (l : Ledger) (a : Agree t l) where
  abbrev slot : Held → ℕ
  slot h = h.slot

  agree_placed : Placed t l.held
  agree_placed =
      record {
        once = once_slots l.held a.orderly.apart;
        low = λ h i. below t l a h i;
        held = λ h i. (shown_key (shows t l a h i)).0;
        key = λ h i. (shown_key (shows t l a h i)).1;
        whole = λ x hx e. let (h, o, j, q, s) = held_in t l a x hx e in subst (λ (y : ℕ). In y (slots_of l.held)) q (in_map slot j);
      }

  pub held_count : length l.held ≡ t.clean + t.loading
  held_count = placed_count a.inv agree_placed

  -- "64 present keys share its bucket"
  pub sharing_chain : (key : CacheKey) → sharing l key ≡ length (chain_of t a.inv key)
  unfolding sharing
  sharing_chain key =
      let v = a.inv in
      let n : ℕ = t.index.buckets in
      let b : ℕ = bucket_of key n in
      let hb : b < n = bucket_low key n v.chains.some_buckets in
      let en : bucket_count l.capacity ≡ n = ap bucket_count a.capacity ∙ sym v.rule in
      let p : Held → Bool = λ h. eqb (bucket_of h.key n) b in
      let hs : List Held = keep p l.held in
      let more : length (chain_of t v key) ≤ length (slots_of hs) = inject (chain_of t v key) (slots_of hs) (v.chains.once b) (λ x i.
      let q = in_chain t v b hb x i in
      let (h, o, j, w, s) = held_in t l a x q.0 q.1 in
      let k : In h hs = in_keep p j (eq-eqb (bucket_of h.key n) b (ap (λ (y : CacheKey). bucket_of y n) (sym (shown_key s).1) ∙ q.2)) in
      subst (λ (y : ℕ). In y (slots_of hs)) w (in_map slot k)) in
      let less : length (slots_of hs) ≤ length (chain_of t v key) = inject (slots_of hs) (chain_of t v key) (once_slots hs (apart_keep p l.held a.orderly.apart)) (λ x i.
      let (h, j, e) = map_in slot hs x i in
      let q = keep_in p l.held h j in
      let w = shown_key (shows t l a h q.0) in
      let eb : bucket_of (slot_at t h.slot).key n ≡ b = ap (λ (y : CacheKey). bucket_of y n) w.1 ∙ eqb-true (bucket_of h.key n) b q.1 in
      rw e (subst (λ (y : ℕ). In h.slot (v.chains.chain y)) eb (chain_in t v h.slot (below t l a h q.0) w.0))) in
      let len : length (slots_of hs) ≡ length hs = length-map hs slot in
      rw en (omega arith)
