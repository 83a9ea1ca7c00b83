-- SPDX-License-Identifier: Apache-2.0
-- Every answer of reclaim on a table with the invariant: never 10, and else removals of victims, reported in order. Assumes nothing.
use Prim.Native.Nat.{ℕ, zero, suc, ◌+◌, ◌-◌, ◌<◌, ◌≤◌, min}
use native.Mathlib.Omega.{arith}
use mathlib.Core.Path.{◌≡◌, refl}
use mathlib.Core.Logic.{◌⊎◌, inl, inr}
use mathlib.Core.List.{List, [], ◌∷◌, ◌++◌}
use lib.Dec.{eqb}
use lib.ListN.{length, set, replicate}
use borrow.Author.Tests.{eqb-true, eqb-false}
use Rattle.basics.specs.Try.{Try, ok}
use Rattle.basics.specs.Numbers.{NONE}
use Rattle.basics.proofs.Tests.{yes!, no!, is}
use Rattle.eviction.specs.Entries.{at}
use Rattle.state.specs.declared.State.{State}
use Rattle.maintenance_reclaim.specs.Reclaim.{BATCH, Taken, taken_one, reclaim_from, reclaim}
use Rattle.laws_table.specs.Table.{last_in, Inv}
use Rattle.laws_table.proofs.TableParts.{sound_inv, at_place, clean_len}
use Rattle.laws_table.proofs.StepLeave.{remove_step}
use Rattle.laws_table.proofs.VictimSearch.{nobody!, somebody!, victim_found}
use Rattle.laws_maintenance.specs.Reclaim.{Removals, none_yet!, one_more!, AllPinned, ReclaimOutcome, refused!, reclaimed! }
use Rattle.laws_maintenance.proofs.Lists.{length_end, set_end}

-- ── the slots reported so far ──
-- these, and then 65535
abbrev report_of : State → List ℕ → Taken
report_of u xs = record { table = u; count = length xs; slots = xs ++ replicate (BATCH - length xs) NONE }

-- one more
report_one : (u w : State) (xs : List ℕ) (x : ℕ) → length xs < BATCH → taken_one (report_of u xs) w x ≡ report_of w (xs ++ (x ∷ []))
report_one u w xs x h =
    let n : ℕ = BATCH - length (xs ++ (x ∷ [])) in
    let more : BATCH - length xs ≡ suc n = omega (arith, length_end xs x) in
    let count : length xs + 1 ≡ length (xs ++ (x ∷ [])) = omega (arith, length_end xs x) in
    let slots : set (xs ++ replicate (BATCH - length xs) NONE) (length xs) x ≡ (xs ++ (x ∷ [])) ++ replicate n NONE = rw more (set_end xs n x NONE) in
    λ i. record { table = w; count = count i; slots = slots i }

-- ── the rounds ──
-- after m rounds in all, or where no victim is left
record Reclaimed (t : State) (pins : List ℕ) (m : ℕ) (r : Try Taken) : Type 0 where
  pub table : State
  pub slots : List ℕ
  pub gives : r ≡ ok (report_of table slots)
  pub removals : Removals pins t table slots
  pub end : (length slots ≡ m) ⊎ ((length slots < m) × AllPinned table pins)

module _ (t : State) (pins : List ℕ) (m : ℕ) (most : m ≤ BATCH) where
  round : (left : ℕ) (u : State) (xs : List ℕ) → Inv u → length pins ≡ u.capacity → length xs < m → Removals pins t u xs
      → ((w : State) (x : ℕ) → Inv w → w.capacity ≡ u.capacity → Removals pins t w (xs ++ (x ∷ [])) → Reclaimed t pins m (reclaim_from left pins (report_of w (xs ++ (x ∷ [])))))
      → Reclaimed t pins m (reclaim_from (suc left) pins (report_of u xs))
  unfolding reclaim_from
  round left u xs v lp room rs rest =
      elim (victim_found u.capacity u.eviction (last_in u.slots) v.heap pins u.clean lp) [
        | nobody! all e ↦ rw e (record { table = u; slots = xs; gives = refl; removals = rs; end = inr (room, λ j h. all j (omega arith) (omega arith) (omega (arith, clean_len v))) })
        | somebody! j a b hj free first e ↦
            let x : ℕ = (at u.eviction j).slot in
            let (low, c, l) = at_place v j hj in
            let (w, z, p) = remove_step u v x low c in
            rw (e, z, report_one u w xs x (omega arith)) (rest w x p.inv p.capacity (one_more! x rs e c free p))
      ]

  rounds : (left : ℕ) (u : State) (xs : List ℕ) → Inv u → length pins ≡ u.capacity → length xs + left ≡ m → Removals pins t u xs → Reclaimed t pins m (reclaim_from left pins (report_of u xs))
  unfolding reclaim_from
  rounds zero u xs v lp e rs = record { table = u; slots = xs; gives = refl; removals = rs; end = inl (omega arith) }
  rounds (suc left) u xs v lp e rs = round left u xs v lp (omega arith) rs (λ w x vw cw q. rounds left w (xs ++ (x ∷ [])) vw (omega arith) (omega (arith, length_end xs x)) q)

pub reclaim_law : (t : State) → Inv t → (limit : ℕ) (pins : List ℕ) → ReclaimOutcome t limit pins (reclaim t limit pins)
unfolding reclaim
reclaim_law t v limit pins =
    rw (sound_inv t v) (elim (is (eqb (length pins) t.capacity)) [
      | no! e ↦ rw e (refused! (eqb-false (length pins) t.capacity e) refl)
      | yes! e ↦
          let r = rounds t pins (min limit BATCH) (omega arith) (min limit BATCH) t [] v (eqb-true (length pins) t.capacity e) (omega arith) none_yet! in
          rw (e, r.gives) (reclaimed! r.table r.slots refl r.removals r.end)
    ])
