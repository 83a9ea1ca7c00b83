-- SPDX-License-Identifier: Apache-2.0
-- A whole sheet: the record number from 0, a line for each record, "and ends" after `bad`.
use Rattle.std.specs.Prelude.{ℕ, zero, suc, ◌+◌, ◌*◌, ◌/◌, ◌-◌, min, Bool, true, false, List, [], ◌++◌, eqb, ltb, length, drop, take, if◌then◌else◌}
use Rattle.basics.specs.Numbers.{MAX}
use Rattle.sheet_standing.specs.declared.Standing.{Standing}
use Rattle.sheet_steps.specs.Standing.{Stepped}
use Rattle.sheet.specs.declared.Ran.{Ran}
use Rattle.sheet_lines.specs.Words.{is_bad, line_of}
use Rattle.sheet_steps.specs.Standing.{start, clean_of, loading_of}
use Rattle.sheet_steps.specs.Steps.{step}

-- what stands after some records, the number of the next one, whether `bad` was printed, and what was printed
pub record Printed : Type 0 where
  pub standing : Standing
  pub number : ℕ
  pub ended : Bool
  pub text : List ℕ

abbrev pub printed : Standing → ℕ → Bool → List ℕ → Printed
printed s n ended text = record { standing = s; number = n; ended = ended; text = text }

-- a line in front of what is printed after it
abbrev pub in_front : List ℕ → Printed → Printed
in_front line p = printed p.standing p.number p.ended (line ++ p.text)

-- the line of a record
unfoldable pub line_after : ℕ → Stepped → List ℕ
line_after n a = line_of n a.said (clean_of a.standing) (loading_of a.standing)

-- "prints its number and `bad` and ends", else on with the next record
unfoldable pub or_end : Bool → Standing → ℕ → Printed → Printed
or_end bad s n rest = if bad then printed s n true [] else rest

-- the records at the front of the bytes, as many as steps are left; n is the number of the first
unfoldable pub run_from : ℕ → Standing → ℕ → List ℕ → Printed
run_from zero s n bytes = printed s n false []
run_from (suc left) s n bytes =
    if eqb (length bytes) 0 then printed s n false [] else
    in_front (line_after n (step s bytes))
    (or_end (is_bad (step s bytes).said) (step s bytes).standing n (run_from left (step s bytes).standing (n + 1) (drop 24 bytes)))

-- every record of the bytes; there are no more records than bytes
abbrev pub run_all : Standing → ℕ → List ℕ → Printed
run_all s n bytes = run_from (length bytes) s n bytes

-- what the program prints for a sheet
unfoldable pub run_sheet : List ℕ → List ℕ
run_sheet bytes = (run_all start 0 bytes).text

-- ── what the code works on: a block of bytes, and a lent list to print into ──
-- the most bytes of a line
abbrev pub LINE : ℕ
LINE = 96

-- as many records as have room in the list, while the number has room in 64 bits
unfoldable pub turns : ℕ → ℕ → ℕ
turns n room = min (room / LINE) (MAX - n)

-- what the code hands back, read so; `out` is what the lent list holds afterwards
abbrev pub ran_after : Ran → List ℕ → Printed
ran_after r out = printed r.standing r.number r.ended (take r.written out)

-- ── what the program does: it reads a block of whole records, prints its lines, and goes on with what stands ──
abbrev pub BLOCK : ℕ
BLOCK = 24 * 2048

abbrev pub ROOM : ℕ
ROOM = LINE * 2048

-- unless `bad` was printed, what the bytes that follow print
abbrev pub and_then : Printed → (Standing → ℕ → List ℕ) → List ℕ
and_then p rest = p.text ++ (if p.ended then [] else rest p.standing p.number)

-- the blocks of the input, as many as steps are left; a short one is the last
unfoldable pub in_blocks : ℕ → Standing → ℕ → List ℕ → List ℕ
in_blocks zero s n input = []
in_blocks (suc left) s n input =
    and_then (run_from (turns n ROOM) s n (take BLOCK input)) (λ s n. if ltb (length input) BLOCK then [] else in_blocks left s n (drop BLOCK input))
