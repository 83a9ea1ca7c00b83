-- SPDX-License-Identifier: Apache-2.0
-- Lists in plain numbers, as oracle/README.md has them.
use Rattle.std.specs.Prelude.{ℕ, suc, ◌+◌, Bool, true, false, List, [], ◌∷◌, ◌++◌, eqb, take, drop, if◌then◌else◌}
use Rattle.basics.specs.Lists.{every}
use Rattle.sheet_lines.specs.Text.{decimal, SPACE}

-- "All numbers are decimal without leading zeros, one space before each, none at the end."
unfoldable pub spaced : List ℕ → List ℕ
spaced [] = []
spaced (n ∷ ns) = SPACE ∷ decimal n ++ spaced ns

unfoldable pub all_zero : List ℕ → Bool
all_zero ns = every (λ n. eqb n 0) ns

abbrev pub word_numbers : ℕ → List ℕ
word_numbers n = n ∷ []

-- what is told of a place where these numbers stand: all of them where `bare`; else nothing where they are 0, and otherwise the place too
unfoldable pub placed : Bool → ℕ → List ℕ → List ℕ
placed bare place ns = if bare then ns else if all_zero ns then [] else place ∷ ns

-- the same of all places of a list, of which this is the first
unfoldable pub told : {A : Type 0} → (A → List ℕ) → Bool → ℕ → List A → List ℕ
told f bare place [] = []
told f bare place (x ∷ l) = placed bare place (f x) ++ told f bare (suc place) l

-- how many places of a list are not 0
unfoldable pub held : {A : Type 0} → (A → List ℕ) → List A → ℕ
held f [] = 0
held f (x ∷ l) = (if all_zero (f x) then 0 else 1) + held f l

-- the places of a list below a length
unfoldable pub below : {A : Type 0} → (A → List ℕ) → ℕ → List A → List ℕ
below f n l = told f true 0 (take n l)

-- "first how many of its places are not 0, then for each of these, in order, its place and what stands there": those past a length
unfoldable pub past : {A : Type 0} → (A → List ℕ) → ℕ → List A → List ℕ
past f n l = held f (drop n l) ∷ told f false n (drop n l)
