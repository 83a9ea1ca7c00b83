-- SPDX-License-Identifier: Apache-2.0
-- A loop that fills an array of zeros from the front with the elements of a list, one store a turn. Assumes nothing.
use Prim.Native.Nat.{ℕ, suc, ◌+◌, ◌-◌, ◌<◌, ◌≤◌}
use native.Mathlib.Omega.{arith}
use native.Mathlib.Numerals.{add-one}
use mathlib.Core.Path.{◌≡◌, sym, ◌∙◌}
use mathlib.Core.List.{List, ◌++◌}
use lib.ListN.{length, get_or, set, take, replicate}
use lib.Seq.{length-take-le, take_all, take-suc, append_snoc, set_at}
use Rattle.basics.specs.Lists.{down}
use Rattle.basics.proofs.Members.{down_length, down_at}

-- an array after i turns
abbrev pub filled : ℕ → List ℕ → ℕ → List ℕ
filled places l i = take i l ++ replicate (places - i) 0

-- a turn stores the next element
pub fill_turn : (places : ℕ) (l : List ℕ) (i v : ℕ) → i < length l → length l ≤ places → v ≡ get_or l i 0 → set (filled places l i) i v ≡ filled places l (i + 1)
fill_turn places l i v h s e =
    let front : length (take i l) ≡ i = length-take-le i l (omega arith) in
    let one : places - i ≡ suc (places - suc i) = omega arith in
    rw (one, add-one, take-suc l i 0, ← e, append_snoc, set_at (take i l) 0 (replicate (places - suc i) 0) v i front)

-- after the last turn the whole list stands in front of the zeros
pub fill_end : (places : ℕ) (l : List ℕ) (n : ℕ) → length l ≤ n → filled places l n ≡ l ++ replicate (places - n) 0
fill_end places l n h = rw (take_all n l h)

-- n − 1, .., 1, 0 in the first n places
pub down_turn : (places n i v : ℕ) → i < n → n ≤ places → v ≡ n - 1 - i → set (filled places (down n) i) i v ≡ filled places (down n) (i + 1)
down_turn places n i v h s e =
    fill_turn places (down n) i v (rw down_length h) (rw down_length s) (e ∙ sym (down_at n i h))

pub down_end : (places n : ℕ) → filled places (down n) n ≡ down n ++ replicate (places - n) 0
down_end places n = fill_end places (down n) n (rw down_length (omega arith))
