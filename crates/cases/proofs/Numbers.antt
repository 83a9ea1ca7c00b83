-- SPDX-License-Identifier: Apache-2.0
-- A number from each of its bytes; ten numbers from each of them. Assumes nothing.
use Prim.Native.Nat.{ℕ, ◌+◌, ◌*◌}
use native.Mathlib.Omega.{arith}
use mathlib.Core.Path.{◌≡◌}
use mathlib.Core.List.{List, [], ◌∷◌}
use Rattle.cases.specs.Bytes.{over, byte_at, low, numbers_at}

over_over : (at a b : ℕ) → over (over at a) b ≡ over at (a + b)
over_over at a b = omega arith

module _ (bytes : List ℕ) (at : ℕ) where
  pub low_two : low 2 bytes at ≡ byte_at bytes at + 256 * byte_at bytes (over at 1)
  unfolding low
  low_two = omega arith

  pub low_eight : low 8 bytes at
      ≡ byte_at bytes at + 256 * (byte_at bytes (over at 1) + 256 * (byte_at bytes (over at 2) + 256 * (byte_at bytes (over at 3)
      + 256 * (byte_at bytes (over at 4) + 256 * (byte_at bytes (over at 5) + 256 * (byte_at bytes (over at 6) + 256 * byte_at bytes (over at 7)))))))
  unfolding low
  low_eight = simp over_over (omega arith)

  pub number_on : {o x : ℕ} (k : ℕ) → o ≡ over at k → x ≡ low 8 bytes o → x ≡ low 8 bytes (over at k)
  number_on k p e = rw p at e

  pub ten_numbers : {a b c d e f g h i j : ℕ} → a ≡ low 8 bytes at → b ≡ low 8 bytes (over at 8) → c ≡ low 8 bytes (over at 16)
      → d ≡ low 8 bytes (over at 24) → e ≡ low 8 bytes (over at 32) → f ≡ low 8 bytes (over at 40) → g ≡ low 8 bytes (over at 48)
      → h ≡ low 8 bytes (over at 56) → i ≡ low 8 bytes (over at 64) → j ≡ low 8 bytes (over at 72)
      → a ∷ b ∷ c ∷ d ∷ e ∷ f ∷ g ∷ h ∷ i ∷ j ∷ [] ≡ numbers_at 10 bytes at
  unfolding numbers_at
  ten_numbers p q r s t u v w x y = simp (p, q, r, s, t, u, v, w, x, y, over_over)
