-- SPDX-License-Identifier: Apache-2.0
-- How many of a list pass a test.
use Rattle.std.specs.Prelude.{ℕ, ◌+◌, Bool, true, false, List, [], ◌∷◌}

-- 1 if the test passes, else 0
abbrev pub bit : Bool → ℕ
bit true = 1
bit false = 0

-- how many of the list pass the test
abbrev pub count : {A : Type 0} → (A → Bool) → List A → ℕ
count p [] = 0
count p (a ∷ l) = bit (p a) + count p l
