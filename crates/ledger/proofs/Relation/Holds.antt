-- SPDX-License-Identifier: Apache-2.0
-- Where table and ledger agree, the table holds exactly the ledger's keys, each once. Assumes nothing.
use Prim.Native.Nat.{ℕ, zero, suc, ◌+◌, ◌<◌, ◌≤◌}
use native.Mathlib.Omega.{arith}
use mathlib.Core.Path.{◌≡◌, refl, sym, ap, ◌∙◌}
use mathlib.Core.Bool.{true, not, ◌&&◌}
use mathlib.Core.List.{List, [], ◌∷◌, map}
use lib.Dec.{ltb, eqb}
use lib.ListN.{take, drop}
use lib.Seq.{drop-cons}
use borrow.Author.Tests.{lt-ltb, ne_eqb}
use Rattle.basics.specs.Lists.{every}
use Rattle.key.specs.Key.{same_key}
use Rattle.state.specs.declared.State.{State}
use Rattle.state.specs.Slots.{slot_at, vacant_slot}
use Rattle.laws_table.proofs.SlotKinds.{clean_not_loading, vacant_neither}
use Rattle.ledger.specs.Ledger.{Held, Ledger}
use Rattle.ledger.specs.Claim.{shown, shown_held, slots_from, distinct, Holds}
use Rattle.ledger.proofs.Keys.Lists.{true_T, every_in, alike, unlike, compared}
use Rattle.ledger.proofs.Keys.Apart.{Apart}
use Rattle.ledger.proofs.Keys.Slots.{at}
use Rattle.ledger.proofs.Relation.Agree.{Agree, as_clean, as_loading, bare, full}

apart_distinct : (hs : List Held) → Apart hs → distinct hs ≡ true
unfolding distinct
apart_distinct [] a = refl
apart_distinct (h ∷ hs) a =
    rw (every_in (λ (o : Held). not (same_key o.key h.key) && not (eqb o.slot h.slot)) hs (λ g i. elim (compared g.key h.key) [
      | alike e q ↦ absurd ((a.0 g i).0 (sym q))
      | unlike e q ↦ rw (e, ne_eqb g.slot h.slot (λ z. (a.0 g i).1 (sym z)))
    ])) (apart_distinct hs a.1)

module _ (t : State) (l : Ledger) (a : Agree t l) where
  shown_at : (n : ℕ) → n < t.capacity → shown (slot_at t n) ≡ shown_held (at l.held n)
  unfolding shown shown_held
  shown_at n hn =
      elim (a.fit n hn) [
        | bare e q ↦ let w = vacant_neither (slot_at t n) q in rw (e, w.0, w.1)
        | full h e s ↦ elim s [
          | as_clean c d k u ↦ rw (e, clean_not_loading (slot_at t n) d, d, c, k, u)
          | as_loading c d k y q g u i z ↦ rw (e, d, c, k)
        ]
      ]

  shown_from : (k n : ℕ) → n + k ≤ t.capacity → map shown (take k (drop n t.slots)) ≡ slots_from k n l
  unfolding slots_from
  shown_from zero n h = refl
  shown_from (suc k) n h = rw (drop-cons t.slots n vacant_slot (omega (arith, a.inv.size, a.inv.small)), shown_at n (omega arith), shown_from k (suc n) (omega arith))

  pub agree_holds : Holds t l
  agree_holds =
      record {
        capacity = sym a.capacity;
        slots = shown_from t.capacity 0 (omega arith) ∙ ap (λ (k : ℕ). slots_from k 0 l) (sym a.capacity);
        inside = true_T (every (λ (h : Held). ltb h.slot l.capacity) l.held) (every_in (λ (h : Held). ltb h.slot l.capacity) l.held (λ h i. lt-ltb h.slot l.capacity (a.orderly.inside h i)));
        once = true_T (distinct l.held) (apart_distinct l.held a.orderly.apart);
      }
