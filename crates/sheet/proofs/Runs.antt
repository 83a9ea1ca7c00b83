-- SPDX-License-Identifier: Apache-2.0
-- Laws on a run: a byte of a line copied, one record, and none. Assumes nothing.
use Prim.Native.Nat.{ℕ, zero, suc, min, ◌+◌, ◌-◌, ◌≤◌, ◌<◌}
use native.Mathlib.Omega.{arith}
use mathlib.Core.Path.{◌≡◌, refl, sym, ◌∙◌, ap}
use mathlib.Core.Bool.{true, false, false≢true}
use mathlib.Core.List.{List, [], ◌++◌, append_assoc, append-nil}
use lib.Dec.{leb}
use lib.ListN.{length, drop, length-append, get_or-append}
use lib.Seq.{drop-drop}
use Rattle.std.proofs.Math.Seq.{drop-append_seam}
use Rattle.std.proofs.lemmas.List.{nil_from_length}
use borrow.Author.Tests.{eq-eqb, ne_eqb, leb-true, leb-false, le-leb}
use Rattle.basics.proofs.Tests.{is, yes!, no! }
use Rattle.sheet_lines.specs.Words.{is_bad}
use Rattle.sheet_lines.specs.Record.{byte_at, low, in_range, fields_of, read_record}
use Rattle.sheet_standing.specs.declared.Standing.{Standing}
use Rattle.sheet_steps.specs.Standing.{Stepped}
use Rattle.sheet_steps.specs.Steps.{step_record, step}
use Rattle.sheet.specs.Run.{printed, in_front, line_after, or_end, run_from}

-- two lists that are the same from a place on are so from a later one on
pub later : (a b : List ℕ) (m n : ℕ) → m ≤ n → drop m a ≡ drop m b → drop n a ≡ drop n b
later a b m n h e =
    let k : m + (n - m) ≡ n = omega arith in
    ap (λ i. drop i a) (sym k) ∙ sym (drop-drop (n - m) m a) ∙ ap (drop (n - m)) e ∙ drop-drop (n - m) m b ∙ ap (λ i. drop i b) k

-- ---- one record, and none
pub no_record : (left : ℕ) (s : Standing) (n : ℕ) (bytes : List ℕ) → left ≤ 0 → run_from left s n bytes ≡ printed s n false []
unfolding run_from
no_record zero s n bytes h = refl
no_record (suc left) s n bytes h = absurd (omega arith)

pub no_bytes : (left : ℕ) (s : Standing) (n : ℕ) (bytes : List ℕ) → length bytes ≤ 0 → run_from left s n bytes ≡ printed s n false []
unfolding run_from
no_bytes zero s n bytes h = refl
no_bytes (suc left) s n bytes h = rw (eq-eqb (length bytes) 0 (omega arith))

pub bad_step : (left : ℕ) (s : Standing) (n : ℕ) (bytes : List ℕ) → 0 < left → 0 < length bytes → is_bad (step s bytes).said ≡ true → run_from left s n bytes ≡ printed (step s bytes).standing n true (line_after n (step s bytes))
unfolding run_from or_end
bad_step zero s n bytes p h bad = absurd (omega arith)
bad_step (suc left) s n bytes p h bad =
    let some : length bytes ≡ 0 → ⊥ = λ e. omega arith in
    rw (ne_eqb (length bytes) 0 some, bad, append-nil)

pub good_step : (left : ℕ) (s : Standing) (n : ℕ) (bytes : List ℕ) → 0 < left → 0 < length bytes → is_bad (step s bytes).said ≡ false → run_from left s n bytes ≡ in_front (line_after n (step s bytes)) (run_from (left - 1) (step s bytes).standing (n + 1) (drop 24 bytes))
unfolding run_from or_end
good_step zero s n bytes p h good = absurd (omega arith)
good_step (suc left) s n bytes p h good =
    let some : length bytes ≡ 0 → ⊥ = λ e. omega arith in
    let e : suc left - 1 ≡ left = omega arith in
    rw (ne_eqb (length bytes) 0 some, good, e)

-- ---- a record is its first 24 bytes
low_front : (m : ℕ) (x y : List ℕ) (at : ℕ) → at + m ≤ length x → low m (x ++ y) at ≡ low m x at
unfolding low
low_front zero x y at h = refl
low_front (suc m) x y at h = rw (get_or-append x y 0 at (omega arith), low_front m x y (at + 1) (omega arith))

read_front : (x y : List ℕ) → 24 ≤ length x → read_record (x ++ y) ≡ read_record x
unfolding read_record in_range fields_of
read_front x y h =
    let byte : (i : ℕ) → i < 24 → byte_at (x ++ y) i ≡ byte_at x i = λ i k. get_or-append x y 0 i (omega arith) in
    let long : 24 ≤ length (x ++ y) = simp length-append (omega arith) in
    rw (le-leb 24 (length x) h, le-leb 24 (length (x ++ y)) long, byte 0 (omega arith), byte 1 (omega arith), byte 2 (omega arith), byte 3 (omega arith), low_front 4 x y 4 (omega arith), low_front 8 x y 8 (omega arith), low_front 8 x y 16 (omega arith))

pub front : (s : Standing) (x y : List ℕ) → 24 ≤ length x → step s (x ++ y) ≡ step s x
unfolding step
front s x y h = ap (step_record s) (read_front x y h)

-- "a short tail" prints `bad`: a record that did not was whole
pub whole : (s : Standing) (bytes : List ℕ) (st : Stepped) → st ≡ step s bytes → is_bad st.said ≡ false → 24 ≤ length bytes
unfolding step step_record read_record in_range
whole s bytes st stepped good = elim (is (leb 24 (length bytes))) [
  | yes! e ↦ leb-true 24 (length bytes) e
  | no! e ↦ absurd (false≢true (sym (rw (stepped, e) at good)))
]

-- the same behind what is printed before: the bytes or the records that are read end, the record is `bad`, or there are more
pub run_end : (left : ℕ) (s : Standing) (n : ℕ) (bytes before : List ℕ) → (0 < left → length bytes ≡ 0) → printed s n false before ≡ in_front before (run_from left s n bytes)
run_end zero s n bytes before h = rw (no_record zero s n bytes (omega arith), append-nil)
run_end (suc left) s n bytes before h = rw (no_bytes (suc left) s n bytes (omega (arith, h (omega arith))), append-nil)

module _ (left : ℕ) (s : Standing) (n : ℕ) (bytes before after : List ℕ) (st : Stepped) (stepped : st ≡ step s bytes) (some : 0 < left) (more : 0 < length bytes) (line : after ≡ before ++ line_after n st) where
  pub run_bad : is_bad st.said ≡ true → printed st.standing n true after ≡ in_front before (run_from left s n bytes)
  run_bad bad = rw (line, bad_step left s n bytes some more (rw stepped at bad), stepped)

  pub run_on : is_bad st.said ≡ false → in_front after (run_from (left - 1) st.standing (n + 1) (drop 24 bytes)) ≡ in_front before (run_from left s n bytes)
  run_on good = rw (line, good_step left s n bytes some more (rw stepped at good), stepped, append_assoc)

-- the last two, where x is the record at the front of the bytes, y what is behind it, and st the step that x makes
module _ (left k m : ℕ) (s : Standing) (n : ℕ) (bytes x y before after : List ℕ) (st : Stepped) (stepped : st ≡ step s x) (one : k + 1 ≡ left) (cut : bytes ≡ x ++ y) (whole_size : m ≡ 24) (size : length x ≡ min m (length bytes)) (more : 0 < length bytes) (line : after ≡ before ++ line_after n st) where
  here : st ≡ step s bytes
  here = elim (is (leb 24 (length x))) [
    | yes! e ↦ rw (cut, stepped) (sym (front s x y (leb-true 24 (length x) e)))
    | no! e ↦
        let short = leb-false 24 (length x) e in
        let long : length bytes ≡ length x + length y = rw cut (length-append x y) in
        let none : y ≡ [] = nil_from_length y (omega arith) in
        rw (cut, none, append-nil, stepped)
  ]

  pub chunk_bad : is_bad st.said ≡ true → printed st.standing n true after ≡ in_front before (run_from left s n bytes)
  chunk_bad = run_bad left s n bytes before after st here (omega arith) more line

  pub chunk_on : is_bad st.said ≡ false → in_front after (run_from k st.standing (n + 1) y) ≡ in_front before (run_from left s n bytes)
  chunk_on good =
      let h : 24 ≤ length x = whole s x st stepped good in
      let e : left - 1 ≡ k = omega arith in
      let e24 : length x ≡ 24 = omega arith in
      let behind : drop 24 bytes ≡ y = rw (← e24, cut) (drop-append_seam x y) in
      rw (← e, ← behind) (run_on left s n bytes before after st here (omega arith) more line good)
