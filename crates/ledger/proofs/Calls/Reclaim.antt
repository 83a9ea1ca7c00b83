-- SPDX-License-Identifier: Apache-2.0
-- Reclaim: the keys of the slots that it hands back leave, one after the other or at once, and table and ledger agree after. Assumes nothing.
use Prim.Native.Nat.{ℕ, ◌-◌}
use mathlib.Core.Path.{◌≡◌, refl, ap, ◌∙◌}
use mathlib.Core.Bool.{Bool, true, false, not, ◌||◌}
use mathlib.Core.List.{List, [], ◌∷◌, ◌++◌}
use lib.Dec.{eqb}
use lib.ListN.{length, replicate}
use Rattle.basics.specs.Numbers.{NONE}
use Rattle.basics.specs.Lists.{some?}
use Rattle.state.specs.declared.State.{State}
use Rattle.maintenance_reclaim.specs.Reclaim as rules
use Rattle.maintenance_reclaim.specs.Reclaim.{BATCH}
use Rattle.laws_maintenance.specs.Reclaim.{Removals, none_yet!, one_more!, refused!, reclaimed! }
use Rattle.laws_maintenance.proofs.Lists.{some_end, take_front}
use Rattle.laws_maintenance.proofs.ReclaimLaw.{reclaim_law}
use Rattle.ledger.specs.Ledger.{Held, Ledger, with_held, not_at, feed_reclaim}
use Rattle.ledger.proofs.Keys.Lists.{keep_all, keep_keep}
use Rattle.ledger.proofs.Keys.Slots.{not_in_held, not_at_lem}
use Rattle.ledger.proofs.Relation.Agree.{Agree}
use Rattle.ledger.proofs.Relation.Steps.{agree_left}

-- ── leaving in turn is leaving at once ──
not_at_none : (hs : List Held) → not_at [] hs ≡ hs
unfolding not_at some?
not_at_none hs = keep_all (λ (h : Held). not (some? (eqb h.slot) [])) hs (λ h i. refl)

not_at_more : (xs : List ℕ) (x : ℕ) (hs : List Held) → not_at (x ∷ []) (not_at xs hs) ≡ not_at (xs ++ (x ∷ [])) hs
unfolding not_at
not_at_more xs x hs =
    not_at_lem x (not_at xs hs)
    ∙ keep_keep (not_in_held x) (λ (h : Held). not (some? (eqb h.slot) xs)) (λ (h : Held). not (some? (eqb h.slot) (xs ++ (x ∷ []))))
    (λ h e. ap not (some_end (eqb h.slot) xs x) ∙ gone (eqb h.slot x) (some? (eqb h.slot) xs) e)
    (λ h e. ap not (some_end (eqb h.slot) xs x) ∙ left (eqb h.slot x) (some? (eqb h.slot) xs) e) hs
  where
    gone : (a b : Bool) → not b ≡ false → not (a || b) ≡ false
    gone true b e = refl
    gone false b e = e

    left : (a b : Bool) → not b ≡ true → not (a || b) ≡ not a
    left true b e = refl
    left false b e = e

-- ── the slots removed ──
removals_agree : {pins : List ℕ} {t u : State} {xs : List ℕ} (l : Ledger) → Agree t l → Removals pins t u xs → Agree u (with_held l (not_at xs l.held))
removals_agree l a none_yet! = rw (not_at_none l.held) a
removals_agree l a (one_more! {u = u} {xs = xs} x r e ec f p) = rw (← not_at_more xs x l.held) (agree_left (removals_agree l a r) ec p)

pub reclaim_agrees : (t : State) (l : Ledger) → Agree t l → (limit : ℕ) (pins : List ℕ) → Agree (rules.reclaim t limit pins).table (feed_reclaim l (rules.reclaim t limit pins).answer (rules.reclaim t limit pins).count (rules.reclaim t limit pins).slots)
unfolding feed_reclaim
reclaim_agrees t l a limit pins =
    elim (reclaim_law t a.inv limit pins) [
      | refused! n e ↦ rw e a
      | reclaimed! u xs e rs w ↦ rw (e, take_front xs (replicate (BATCH - length xs) NONE)) (removals_agree l a rs)
    ]
