-- SPDX-License-Identifier: Apache-2.0
-- The program reads its input a block at a time and keeps only what stands and the number of the next record. That this prints
-- what `run_sheet` prints for the whole input is `blocks`: no contract can speak of what a program reads and writes. Assumes nothing.
use Rattle.std.proofs.Common.{if◌then◌else◌}
use Prim.Native.Nat.{ℕ, zero, suc, ◌+◌, ◌-◌, ◌*◌, ◌≤◌, ◌<◌}
use native.Mathlib.Omega.{arith}
use mathlib.Core.Path.{◌≡◌, refl, sym, ◌∙◌, ap}
use mathlib.Core.Bool.{Bool, true, false}
use mathlib.Core.List.{List, [], ◌∷◌, ◌++◌, append_assoc, append-nil}
use lib.Dec.{eqb, ltb}
use lib.ListN.{length, take, drop, length-append, length-drop, take-append-drop}
use lib.Seq.{drop-append-le, take_all, length-take-le}
use borrow.Author.Tests.{ltb-true, ltb-false, lt-ltb, le-ltb}
use Rattle.basics.specs.Numbers.{MAX}
use Rattle.basics.proofs.Tests.{is, yes!, no! }
use Rattle.sheet_lines.specs.Words.{is_bad}
use Rattle.sheet_standing.specs.declared.Standing.{Standing}
use Rattle.sheet_steps.specs.Steps.{step}
use Rattle.sheet_steps.specs.Standing.{start}
use Rattle.sheet.specs.Run.{Printed, in_front, line_after, or_end, run_from, run_all, run_sheet, turns, BLOCK, ROOM, in_blocks}
use Rattle.sheet.proofs.Runs.{no_record, no_bytes, bad_step, good_step, front}

-- ---- more turns than records change nothing
enough_step : (a b : ℕ) (s : Standing) (n : ℕ) (bytes : List ℕ) → run_from a (step s bytes).standing (n + 1) (drop 24 bytes) ≡ run_from b (step s bytes).standing (n + 1) (drop 24 bytes) → run_from (suc a) s n bytes ≡ run_from (suc b) s n bytes
unfolding run_from
enough_step a b s n bytes rec = rw rec

enough : (a b : ℕ) (s : Standing) (n : ℕ) (bytes : List ℕ) → length bytes ≤ 24 * a → length bytes ≤ 24 * b → run_from a s n bytes ≡ run_from b s n bytes
enough zero b s n bytes h k = no_bytes zero s n bytes (omega arith) ∙ sym (no_bytes b s n bytes (omega arith))
enough (suc a) zero s n bytes h k = no_bytes (suc a) s n bytes (omega arith) ∙ sym (no_bytes zero s n bytes (omega arith))
enough (suc a) (suc b) s n bytes h k =
    enough_step a b s n bytes (enough a b (step s bytes).standing (n + 1) (drop 24 bytes) (simp length-drop (omega arith)) (simp length-drop (omega arith)))

-- ---- records in front of others
-- what is printed for some bytes, and then, unless it ended, for the bytes behind them
abbrev pub then_run : Printed → List ℕ → Printed
then_run p y = if p.ended then p else in_front p.text (run_all p.standing p.number y)

front_if : (b : Bool) (line text : List ℕ) (p q : Printed) → (if b then in_front line p else in_front (line ++ text) q) ≡ in_front line (if b then p else in_front text q)
front_if true line text p q = refl
front_if false line text p q = rw append_assoc

join_step : (k left : ℕ) (s : Standing) (n : ℕ) (x y : List ℕ) → 24 ≤ length x → run_from left (step s x).standing (n + 1) (drop 24 x ++ y) ≡ then_run (run_from k (step s x).standing (n + 1) (drop 24 x)) y → run_from (suc left) s n (x ++ y) ≡ then_run (run_from (suc k) s n x) y
join_step k left s n x y h rec =
    let f = front s x y h in
    let p = run_from k (step s x).standing (n + 1) (drop 24 x) in
    let long : 0 < length (x ++ y) = simp length-append (omega arith) in
    let one : suc left - 1 ≡ left = omega arith in
    let two : suc k - 1 ≡ k = omega arith in
    elim (is (is_bad (step s x).said)) [
      | yes! e ↦ rw (bad_step (suc left) s n (x ++ y) (omega arith) long (rw f e), f, bad_step (suc k) s n x (omega arith) (omega arith) e)
      | no! e ↦ rw (good_step (suc left) s n (x ++ y) (omega arith) long (rw f e), f, drop-append-le 24 x y h, one, rec, good_step (suc k) s n x (omega arith) (omega arith) e, two) (sym (front_if p.ended (line_after n (step s x)) p.text p (run_all p.standing p.number y)))
    ]

join_from : (k left : ℕ) (s : Standing) (n : ℕ) (x y : List ℕ) → length x ≡ 24 * k → length x + length y ≤ 24 * left → run_from left s n (x ++ y) ≡ then_run (run_from k s n x) y
join_from zero left s n [] y h r = rw (no_record 0 s n [] (omega arith)) (enough left (length y) s n y (omega arith) (omega arith))
join_from zero left s n (b ∷ x) y h r = absurd (omega arith)
join_from (suc k) zero s n x y h r = absurd (omega arith)
join_from (suc k) (suc left) s n x y h r =
    join_step k left s n x y (omega arith) (join_from k left (step s x).standing (n + 1) (drop 24 x) y (simp length-drop (omega arith)) (simp length-drop (omega arith)))

-- whole records, and what stands behind them
pub joined : (k : ℕ) (s : Standing) (n : ℕ) (x y : List ℕ) → length x ≡ 24 * k → run_all s n (x ++ y) ≡ then_run (run_from k s n x) y
joined k s n x y h = join_from k (length (x ++ y)) s n x y h (simp length-append (omega arith))

-- ---- a block at a time
-- the number goes up by one a record
number_up : (left : ℕ) (s : Standing) (n : ℕ) (bytes : List ℕ) → (run_from left s n bytes).number ≤ n + left
unfolding run_from or_end
number_up zero s n bytes = omega arith
number_up (suc left) s n bytes =
    let up = number_up left (step s bytes).standing (n + 1) (drop 24 bytes) in
    elim (is (eqb (length bytes) 0)) [
      | yes! e ↦ rw e (omega arith)
      | no! e ↦ rw e (elim (is (is_bad (step s bytes).said)) [
        | yes! bad ↦ rw bad (omega arith)
        | no! good ↦ rw good (omega arith)
      ])
    ]

-- a block's turns: one for each of its records
all_turns : (n m : ℕ) → 24 * n + m ≤ 24 * MAX → m < BLOCK → m ≤ 24 * turns n ROOM
unfolding turns
all_turns n m h k = omega arith

full_turns : (n : ℕ) → n + 2048 ≤ MAX → turns n ROOM ≡ 2048
unfolding turns
full_turns n h = omega arith

no_more : (b : Bool) (l : List ℕ) → l ++ (if b then [] else []) ≡ l
no_more true l = append-nil l
no_more false l = append-nil l

then_text : (b : Bool) (rest : List ℕ) (p q : Printed) → rest ≡ q.text → p.text ++ (if b then [] else rest) ≡ (if b then p else in_front p.text q).text
then_text true rest p q e = append-nil p.text
then_text false rest p q e = ap (λ l. p.text ++ l) e

last_block : (left : ℕ) (s : Standing) (n : ℕ) (input : List ℕ) → 24 * n + length input ≤ 24 * MAX → length input < BLOCK → in_blocks (suc left) s n input ≡ (run_all s n input).text
unfolding in_blocks
last_block left s n input h short =
    let p = run_all s n input in
    rw (take_all BLOCK input (omega arith), lt-ltb (length input) BLOCK short, enough (turns n ROOM) (length input) s n input (all_turns n (length input) h short) (omega arith)) (no_more p.ended p.text)

next_block : (left : ℕ) (s : Standing) (n : ℕ) (input : List ℕ) → n + 2048 ≤ MAX → BLOCK ≤ length input → in_blocks left (run_from 2048 s n (take BLOCK input)).standing (run_from 2048 s n (take BLOCK input)).number (drop BLOCK input) ≡ (run_all (run_from 2048 s n (take BLOCK input)).standing (run_from 2048 s n (take BLOCK input)).number (drop BLOCK input)).text → in_blocks (suc left) s n input ≡ (run_all s n input).text
unfolding in_blocks
next_block left s n input h long rec =
    let p = run_from 2048 s n (take BLOCK input) in
    let cut = ap (run_all s n) (sym (take-append-drop BLOCK input)) ∙ joined 2048 s n (take BLOCK input) (drop BLOCK input) (length-take-le BLOCK input long) in
    rw (full_turns n h, le-ltb (length input) BLOCK long) (then_text p.ended _ p (run_all p.standing p.number (drop BLOCK input)) rec ∙ sym (ap (λ q. q.text) cut))

blocks_from : (left : ℕ) (s : Standing) (n : ℕ) (input : List ℕ) → 24 * n + length input ≤ 24 * MAX → length input < BLOCK * left → in_blocks left s n input ≡ (run_all s n input).text
blocks_from zero s n input h l = absurd (omega arith)
blocks_from (suc left) s n input h l = elim (is (ltb (length input) BLOCK)) [
  | yes! e ↦ last_block left s n input h (ltb-true _ _ e)
  | no! e ↦
      let long = ltb-false _ _ e in
      let up = number_up 2048 s n (take BLOCK input) in
      next_block left s n input (omega arith) long (blocks_from left _ _ (drop BLOCK input) (simp length-drop (omega arith)) (simp length-drop (omega arith)))
]

-- What the program prints, a block at a time, is what the sheet prints; the numbers of its records have room in 64 bits.
pub blocks : (input : List ℕ) → length input ≤ 24 * MAX → in_blocks MAX start 0 input ≡ run_sheet input
unfolding run_sheet
blocks input h = blocks_from MAX start 0 input (omega arith) (omega arith)
