-- SPDX-License-Identifier: Apache-2.0
-- K1 to K12, computed by the rules in one theorem. Assumes nothing.
use mathlib.Core.Path.{◌≡◌, refl}
use mathlib.Core.Bool.{true}
use mathlib.Core.List.{[], ◌∷◌, map}
use Rattle.sheet.specs.Rules.{sheet_rules}
use Rattle.known.specs.Sheets.{in_bytes, record24, chain, after, prints, leaves, heap_slots, slot_or, same}
use Rattle.known.specs.Known.{spent, known, right}

-- K1 to K12
pub known_answers : right known ≡ true
unfolding sheet_rules in_bytes record24 chain after prints leaves heap_slots slot_or same spent known right
known_answers = refl

-- the table has twelve rows, K1 to K12 in order
pub known_names : map (λ k. k.name) known ≡ 1 ∷ 2 ∷ 3 ∷ 4 ∷ 5 ∷ 6 ∷ 7 ∷ 8 ∷ 9 ∷ 10 ∷ 11 ∷ 12 ∷ []
unfolding known
known_names = refl
