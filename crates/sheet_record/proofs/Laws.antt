-- SPDX-License-Identifier: Apache-2.0
-- Laws of a record's bytes: they are read as the record. Assumes nothing.
use Rattle.std.proofs.Common.{Some, None, if◌then◌else◌}
use Prim.Native.Nat.{ℕ, ◌+◌, ◌*◌, ◌^◌, ◌≤◌, ◌<◌}
use native.Mathlib.Omega.{arith}
use mathlib.Core.Path.{◌≡◌, refl, ◌∙◌}
use mathlib.Core.Bool.{Bool, true, false}
use mathlib.Core.List.{List, ◌∷◌, ◌++◌}
use lib.Dec.{eqb, leb}
use lib.ListN.{length}
use borrow.Author.Tests.{le-leb}
use Rattle.std.specs.Int.{w32, w64, to_le_bytes, from_bool}
use Rattle.std.proofs.lemmas.Nat.{from_le_bytes-to_le_bytes_4, from_le_bytes-to_le_bytes_8}
use Rattle.sheet_lines.specs.declared.Record.{Record}
use Rattle.sheet_lines.specs.Record.{low, in_range, fields_of, read_record}
use Rattle.sheet_record.specs.Good.{good}

-- ---- the bytes of a number are read as the number
four_lem : (a b c d : ℕ) → a + 256 * (b + 256 * (c + 256 * (d + 256 * 0))) ≡ a + b * 256 ^ 1 + c * 256 ^ 2 + d * 256 ^ 3
four_lem a b c d = omega arith

eight_lem : (a b c d e f g h : ℕ) → a + 256 * (b + 256 * (c + 256 * (d + 256 * (e + 256 * (f + 256 * (g + 256 * (h + 256 * 0))))))) ≡ a + b * 256 ^ 1 + c * 256 ^ 2 + d * 256 ^ 3 + e * 256 ^ 4 + f * 256 ^ 5 + g * 256 ^ 6 + h * 256 ^ 7
eight_lem a b c d e f g h = omega arith

four_back : (n : ℕ) → n < 2 ^ 32 → low 4 (to_le_bytes w32 n) 0 ≡ n
unfolding low
four_back n h = four_lem _ _ _ _ ∙ from_le_bytes-to_le_bytes_4 n h

eight_back : (n : ℕ) → n < 2 ^ 64 → low 8 (to_le_bytes w64 n) 0 ≡ n
unfolding low
eight_back n h = eight_lem _ _ _ _ _ _ _ _ ∙ from_le_bytes-to_le_bytes_8 n h

-- ---- the bytes of a record are read as the record
bit_one : (b : Bool) → (leb (from_bool b) 1 ≡ true) × (eqb (from_bool b) 1 ≡ b)
bit_one true = (refl, refl)
bit_one false = (refl, refl)

-- the numbers may stand in any bytes that say them
pub reads_back : (r : Record) (flag : ℕ) (rest : List ℕ) → r.place ≤ 15 → r.number ≤ 4294967295 → flag ≡ from_bool r.allow
    → length rest ≡ 20 → low 4 rest 0 ≡ r.number → low 8 rest 4 ≡ r.key.file → low 8 rest 12 ≡ r.key.index
    → read_record (r.code ∷ flag ∷ r.key.kind ∷ r.place ∷ rest) ≡ (if good r then Some r else None)
unfolding read_record in_range fields_of good low
reads_back r flag rest place number flag_is long number_is file_is index_is =
    rw (long, number_is, file_is, index_is, flag_is, (bit_one r.allow).0, (bit_one r.allow).1, le-leb _ _ place, le-leb _ _ number)

pub written_back : (r : Record) (number file index : ℕ) → r.place ≤ 15 → number ≤ 4294967295 → file < 2 ^ 64 → index < 2 ^ 64
    → number ≡ r.number → file ≡ r.key.file → index ≡ r.key.index
    → read_record (r.code ∷ from_bool r.allow ∷ r.key.kind ∷ r.place ∷ to_le_bytes w32 number ++ to_le_bytes w64 file ++ to_le_bytes w64 index)
    ≡ (if good r then Some r else None)
unfolding low
written_back r number file index place n f i number_is file_is index_is =
    reads_back r (from_bool r.allow) (to_le_bytes w32 number ++ to_le_bytes w64 file ++ to_le_bytes w64 index) place (omega arith) refl refl
    (four_back number (omega arith) ∙ number_is) (eight_back file f ∙ file_is) (eight_back index i ∙ index_is)
