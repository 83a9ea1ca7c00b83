-- SPDX-License-Identifier: Apache-2.0
-- The checksum, and the number that each answer adds to it.
use Rattle.std.specs.Prelude.{ℕ, ◌+◌, ◌%◌, ◌^◌}
use Rattle.std.proofs.Math.Option.{Option, none, some}
use Rattle.basics.specs.Try.{Try, ok, refuse}
use Rattle.basics.specs.Answers.{Fine, done}
use Rattle.state.specs.Answers.{Given, hit, in_progress, reserved, evicted, busy}
use Rattle.maintenance_resize.specs.Answers.{Size, unchanged, busy_now, resized}
use Rattle.bench.specs.declared.Sum.{Sum}

abbrev pub no_sum : Sum
no_sum = record { first = 0; second = 0 }

-- the sum of the numbers, and the sum of those sums, both wrapping at 2^64
unfoldable pub plus : Sum → ℕ → Sum
plus s n = record { first = (s.first + n) % 2 ^ 64; second = (s.second + (s.first + n) % 2 ^ 64) % 2 ^ 64 }

-- a word of the answer and its number
abbrev pub word_of : ℕ → ℕ → ℕ
word_of word n = (word + n) % 2 ^ 64

-- access
unfoldable pub access_number : Try Given → ℕ
access_number (ok (hit slot)) = word_of 1000 slot
access_number (ok in_progress) = 2000
access_number (ok (reserved k)) = word_of 3000 k.slot
access_number (ok (evicted k)) = word_of 4000 k.slot
access_number (ok busy) = 5000
access_number (refuse n) = n

-- new, publish and abort
unfoldable pub done_number : Try Fine → ℕ
done_number (ok done) = 6000
done_number (refuse n) = n

-- lookup
unfoldable pub found_number : Try (Option ℕ) → ℕ
found_number (ok (some slot)) = word_of 1000 slot
found_number (ok none) = 7000
found_number (refuse n) = n

-- resize
unfoldable pub size_number : Try Size → ℕ
size_number (ok unchanged) = 8000
size_number (ok busy_now) = 5000
size_number (ok (resized c)) = word_of 9000 c
size_number (refuse n) = n
