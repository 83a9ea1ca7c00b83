-- SPDX-License-Identifier: Apache-2.0
-- What stands between two records of a sheet is in order, whatever the bytes; and what its lines show. Assumes nothing.
use Rattle.std.proofs.Common.{if◌then◌else◌}
use Prim.Native.Nat.{ℕ, zero, suc, ◌+◌, ◌-◌, ◌*◌, ◌≤◌, ◌<◌}
use native.Mathlib.Omega.{arith}
use mathlib.Core.Path.{◌≡◌, refl, sym, ◌∙◌, subst}
use mathlib.Core.Bool.{Bool, true, false, false≢true}
use mathlib.Core.List.{List, [], ◌∷◌}
use mathlib.Core.Logic.{◌⊎◌, inl, inr}
use lib.Dec.{eqb}
use lib.ListN.{length, drop, length-drop}
use borrow.Author.Tests.{eqb-true, eqb-false, lt-leb, leb-true}
use Rattle.basics.specs.Lists.{some?}
use Rattle.basics.specs.Numbers.{MAX}
use Rattle.basics.specs.Refusals.{PINS, LIST, EXHAUSTED, UNCLEAN, UNGIVEN, STOP}
use Rattle.basics.proofs.Tests.{is, yes!, no! }
use Rattle.state.specs.Fresh.{empty, no_table}
use Rattle.sheet_lines.specs.declared.Said.{Said}
use Rattle.sheet_lines.specs.Record.{byte_at}
use Rattle.sheet_lines.specs.Words.{is_bad}
use Rattle.sheet_standing.specs.declared.Standing.{Standing}
use Rattle.sheet_steps.specs.Standing.{start, clean_of, loading_of}
use Rattle.sheet_steps.specs.Steps.{step}
use Rattle.sheet.specs.Run.{line_after, run_from, run_sheet}
use Rattle.sheet.proofs.Runs.{no_bytes, bad_step, good_step, whole}
use Rattle.laws_sheet.specs.Orderly.{Orderly, unmade!, Counted}
use Rattle.laws_sheet.specs.Refusals.{refusals, refusable, sayable, spent_by, RefusedBy}
use Rattle.laws_sheet.specs.Shown.{Shown, ends!, bad!, line!, RefusalsShown}
use Rattle.laws_sheet.proofs.StepsStand.{step_fair}

-- ── what stands ──
pub orderly_start : Orderly start
orderly_start = unmade! refl

pub counted_start : Counted 0 start.state
unfolding start no_table empty
counted_start = record { uses = omega arith; generations = omega arith }

-- whatever was counted
pub orderly_step : (s : Standing) → Orderly s → (bytes : List ℕ) → Orderly (step s bytes).standing
orderly_step s o bytes =
    let t = s.state in
    (step_fair s (t.next_access_sequence + t.next_load_generation) o (record { uses = omega arith; generations = omega arith }) bytes).orderly

-- after n records of any bytes
abbrev Stands : ℕ → Standing → Type 0
Stands n s = Orderly s × Counted n s.state

by_then : (m n : ℕ) (s : Standing) → m ≤ n → Stands m s → Stands n s
by_then m n s h (o, k) = (o, record { uses = omega (arith, k.uses); generations = omega (arith, k.generations) })

pub run_stands : (left : ℕ) (s : Standing) (n : ℕ) (bytes : List ℕ) → Orderly s → Counted n s.state → Orderly (run_from left s n bytes).standing × Counted (n + left) (run_from left s n bytes).standing.state
unfolding run_from
run_stands zero s n bytes o k = by_then n (n + 0) s (omega arith) (o, k)
run_stands (suc left) s n bytes o k =
    elim (is (eqb (length bytes) 0)) [
      | yes! e ↦ rw (no_bytes (suc left) s n bytes (omega (arith, eqb-true (length bytes) 0 e))) (by_then n (n + suc left) s (omega arith) (o, k))
      | no! e ↦
          let some : 0 < length bytes = omega (arith, eqb-false (length bytes) 0 e) in
          let f = step_fair s n o k bytes in
          let a = step s bytes in
          elim (is (is_bad a.said)) [
            | yes! b ↦ rw (bad_step (suc left) s n bytes (omega arith) some b) (by_then (n + 1) (n + suc left) a.standing (omega arith) (f.orderly, f.counted))
            | no! b ↦
                let one : suc left - 1 ≡ left = omega arith in
                rw (good_step (suc left) s n bytes (omega arith) some b, one) (by_then (n + 1 + left) (n + suc left) (run_from left a.standing (n + 1) (drop 24 bytes)).standing (omega arith) (run_stands left a.standing (n + 1) (drop 24 bytes) f.orderly f.counted))
          ]
    ]

pub sheet_stands : (records : ℕ) (bytes : List ℕ) → Orderly (run_from records start 0 bytes).standing × Counted records (run_from records start 0 bytes).standing.state
sheet_stands records bytes = by_then (0 + records) records (run_from records start 0 bytes).standing (omega arith) (run_stands records start 0 bytes orderly_start counted_start)

-- ── what it says ──
-- what no row of the table has, and what only two have
abbrev Row : Bool → ℕ → List ℕ → Type 0
Row spent code row =
    (some? (eqb PINS) row ≡ false) × (some? (eqb LIST) row ≡ false) × (some? (eqb UNGIVEN) row ≡ false) × (some? (eqb STOP) row ≡ false) × (some? (eqb UNCLEAN) row ≡ true → (code ≡ 6) ⊎ (code ≡ 7)) × (spent ≡ false → some? (eqb EXHAUSTED) row ≡ false)

spent_row : (spent : Bool) (code : ℕ) → Row spent code (if spent then EXHAUSTED ∷ [] else [])
unfolding some?
spent_row true code = (refl, refl, refl, refl, λ e. absurd (false≢true e), λ e. absurd (false≢true (sym e)))
spent_row false code = (refl, refl, refl, refl, λ e. absurd (false≢true e), λ e. refl)

row : (spent : Bool) (code : ℕ) → Row spent code (refusals spent code)
unfolding some?
row spent code =
    elim (is (eqb code 1)) [
      | yes! e ↦ rw (eqb-true code 1 e) (refl, refl, refl, refl, λ q. absurd (false≢true q), λ q. refl)
      | no! e1 ↦ elim (is (eqb code 2)) [
        | yes! e ↦ rw (eqb-true code 2 e) (spent_row spent 2)
        | no! e2 ↦ elim (is (eqb code 3)) [
          | yes! e ↦ rw (eqb-true code 3 e) (refl, refl, refl, refl, λ q. absurd (false≢true q), λ q. refl)
          | no! e3 ↦ elim (is (eqb code 4)) [
            | yes! e ↦ rw (eqb-true code 4 e) (refl, refl, refl, refl, λ q. absurd (false≢true q), λ q. refl)
            | no! e4 ↦ elim (is (eqb code 5)) [
              | yes! e ↦ rw (eqb-true code 5 e) (spent_row spent 5)
              | no! e5 ↦ elim (is (eqb code 6)) [
                | yes! e ↦ rw (eqb-true code 6 e) (refl, refl, refl, refl, λ q. inl refl, λ q. refl)
                | no! e6 ↦ elim (is (eqb code 7)) [
                  | yes! e ↦ rw (eqb-true code 7 e) (refl, refl, refl, refl, λ q. inr refl, λ q. refl)
                  | no! e7 ↦ elim (is (eqb code 8)) [
                    | yes! e ↦ rw (eqb-true code 8 e) (refl, refl, refl, refl, λ q. absurd (false≢true q), λ q. refl)
                    | no! e8 ↦ rw (e1, e2, e3, e4, e5, e6, e7, e8) (refl, refl, refl, refl, λ q. absurd (false≢true q), λ q. refl)
                  ]
                ]
              ]
            ]
          ]
        ]
      ]
    ]

table_says : (n code k : ℕ) → refusable (spent_by n) code k ≡ true → RefusedBy n code k
unfolding refusable
table_says n code k e =
    let (pins, list, ungiven, stop, unclean, unspent) = row (spent_by n) code in
    record {
      pins = λ z. false≢true (sym pins ∙ (rw z at e));
      list = λ z. false≢true (sym list ∙ (rw z at e));
      ungiven = λ z. false≢true (sym ungiven ∙ (rw z at e));
      stop = λ z. false≢true (sym stop ∙ (rw z at e));
      unclean = λ z. unclean (rw z at e);
      exhausted = λ z. elim (is (spent_by n)) [ yes! q ↦ leb-true MAX n q | no! q ↦ absurd (false≢true (sym (unspent q) ∙ (rw z at e))) ];
    }

-- of any standing that is in order
pub step_refused : (s : Standing) (n : ℕ) → Orderly s → Counted n s.state → (bytes : List ℕ) (k : ℕ) → (step s bytes).said ≡ Said.Refused k → RefusedBy n (byte_at bytes 0) k
step_refused s n o c bytes k e = table_says n (byte_at bytes 0) k (subst (λ (w : Said). sayable (spent_by n) (byte_at bytes 0) w ≡ true) e (step_fair s n o c bytes).said)

-- after n records of any sheet
pub sheet_refused : (records : ℕ) (sheet bytes : List ℕ) (k : ℕ) → (step (run_from records start 0 sheet).standing bytes).said ≡ Said.Refused k → RefusedBy records (byte_at bytes 0) k
sheet_refused records sheet bytes k e = let (o, c) = sheet_stands records sheet in step_refused (run_from records start 0 sheet).standing records o c bytes k e

-- ── the lines ──
shows : (left : ℕ) (s : Standing) (n : ℕ) (bytes : List ℕ) → Orderly s → Counted n s.state → 24 * n + length bytes ≤ 24 * MAX → length bytes ≤ left → Shown (sayable false) n bytes (run_from left s n bytes).text
unfolding line_after
shows zero s n bytes o k few h = let none : length bytes ≡ 0 = omega arith in rw (no_bytes zero s n bytes h) (ends! none)
shows (suc left) s n bytes o k few h =
    elim (is (eqb (length bytes) 0)) [
      | yes! e ↦ let none = eqb-true (length bytes) 0 e in rw (no_bytes (suc left) s n bytes (omega arith)) (ends! none)
      | no! e ↦
          let some : 0 < length bytes = omega (arith, eqb-false (length bytes) 0 e) in
          let f = step_fair s n o k bytes in
          let a = step s bytes in
          let unspent : spent_by n ≡ false = lt-leb MAX n (omega arith) in
          elim (is (is_bad a.said)) [
            | yes! b ↦ rw (bad_step (suc left) s n bytes (omega arith) some b) (bad! a.said (clean_of a.standing) (loading_of a.standing) b)
            | no! b ↦
                let one : suc left - 1 ≡ left = omega arith in
                let full = whole s bytes a refl b in
                let long = length-drop 24 bytes in
                rw (good_step (suc left) s n bytes (omega arith) some b, one) (line! a.said (clean_of a.standing) (loading_of a.standing) b (rw unspent at f.said)
                (shows left a.standing (n + 1) (drop 24 bytes) f.orderly f.counted (omega arith) (omega arith)))
          ]
    ]

pub refusals_shown : RefusalsShown
unfolding run_sheet
refusals_shown bytes few = shows (length bytes) start 0 bytes orderly_start counted_start (omega arith) (omega arith)
