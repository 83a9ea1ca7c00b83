-- SPDX-License-Identifier: Apache-2.0
-- Where a byte first stands in some bytes; their length where it does not.
use Rattle.std.specs.Prelude.{ℕ, suc, List, [], ◌∷◌, eqb, if◌then◌else◌}

unfoldable pub index_of : ℕ → List ℕ → ℕ
index_of b [] = 0
index_of b (x ∷ rest) = if eqb x b then 0 else suc (index_of b rest)
