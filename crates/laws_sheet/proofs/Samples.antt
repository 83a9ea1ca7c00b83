-- SPDX-License-Identifier: Apache-2.0
-- A sheet that shows each refusal of the table but 7, from each code that has it: no row is wider than it has to be. Assumes nothing.
use Prim.Native.Nat.{ℕ}
use mathlib.Core.Path.{◌≡◌, refl}
use mathlib.Core.List.{List, ◌∷◌, ◌++◌}
use lib.ListN.{replicate}
use Rattle.sheet_lines.specs.Text.{bytes_of}
use Rattle.sheet.specs.Run.{run_sheet}
use Rattle.sheet.specs.Rules.{sheet_rules}

-- a record: code, token place, the two low bytes of the number, and of the key its index; loads are allowed
abbrev rec : ℕ → ℕ → ℕ → ℕ → ℕ → List ℕ
rec code place low high index = code ∷ 1 ∷ 0 ∷ place ∷ low ∷ high ∷ replicate 10 0 ++ index ∷ replicate 7 0

-- new 0, 257 and 2; a publish and an abort of an empty place; slots 2 and 0 removed and pinned; resize to 0 and 257
abbrev inputs : List ℕ
inputs =
    rec 1 0 0 0 0 ++ rec 1 0 1 1 0 ++ rec 1 0 2 0 0 ++ rec 3 0 0 0 0 ++ rec 4 0 0 0 0 ++ rec 6 0 2 0 0 ++ rec 6 0 0 0 0 ++ rec 7 0 2 0 0 ++ rec 7 0 0 0 0 ++ rec 8 0 0 0 0 ++ rec 8 0 1 1 0

-- an empty table shrinks, and the same key loads in the same slot: the token from before gives 6, and the new one is good
abbrev tokens : List ℕ
tokens =
    rec 2 0 0 0 1 ++ rec 4 0 0 0 0 ++ rec 8 0 1 0 0 ++ rec 2 1 0 0 1 ++ rec 3 0 0 0 0 ++ rec 3 1 0 0 0

refused : run_sheet (inputs ++ tokens)
    ≡ bytes_of "0 refused 1 0 0\n1 refused 2 0 0\n2 made 2 0 0\n3 refused 6 0 0\n4 refused 6 0 0\n5 refused 5 0 0\n6 refused 8 0 0\n7 refused 5 0 0\n8 refused 8 0 0\n9 refused 1 0 0\n10 refused 2 0 0\n"
    ++ bytes_of "11 reserved 0 0 1\n12 done - 0 0\n13 resized 1 0 0\n14 reserved 0 0 1\n15 refused 6 0 1\n16 done - 1 0\n"
unfolding sheet_rules
refused = refl
