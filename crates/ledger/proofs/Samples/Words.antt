-- SPDX-License-Identifier: Apache-2.0
-- Short names for what the lists of calls are written with. Assumes nothing.
use Prim.Native.Nat.{ℕ, ◌*◌, ◌-◌}
use mathlib.Core.Bool.{Bool}
use Rattle.basics.specs.Try.{Try, ok, refuse}
use Rattle.basics.specs.Answers.{Fine, done}
use Rattle.key.specs.declared.CacheKey.{CacheKey}
use Rattle.state.specs.declared.LoadToken.{LoadToken}
use Rattle.state.specs.Answers.{Given, hit, in_progress, reserved, evicted, busy}
use Rattle.ledger.specs.Ledger.{Held}

-- a key for each number: pages in a row, so that keys of neighbouring numbers are of neighbouring buckets
abbrev pub key : ℕ → CacheKey
key n = record { file = 0; kind = 0; index = n }

-- a key of each file that has the sum: a file turned left by 5 bits is 32 times the file
abbrev pub mate : ℕ → ℕ → CacheKey
mate sum file = record { file = file; kind = 0; index = sum - 32 * file }

-- the token of a slot, a generation, a key and a use number; and that of the key of a number
abbrev pub token_of : ℕ → ℕ → CacheKey → ℕ → LoadToken
token_of slot g k u = record { slot = slot; generation = g; key = k; access_sequence = u }

abbrev pub token : ℕ → ℕ → ℕ → ℕ → LoadToken
token slot g n u = token_of slot g (key n) u

-- the key of a number in a slot, clean or loading, and its last use
abbrev pub held : ℕ → ℕ → Bool → ℕ → Held
held n slot clean last = record { key = key n; slot = slot; clean = clean; last = last }

-- which word an answer of access is, and the slot in it
abbrev pub word : Try Given → ℕ
word (ok (hit slot)) = 0
word (ok in_progress) = 1
word (ok (reserved k)) = 2
word (ok (evicted k)) = 3
word (ok busy) = 4
word (refuse n) = 5

abbrev pub slot_in : Try Given → ℕ
slot_in (ok (hit slot)) = slot
slot_in (ok in_progress) = 0
slot_in (ok (reserved k)) = k.slot
slot_in (ok (evicted k)) = k.slot
slot_in (ok busy) = 0
slot_in (refuse n) = 0

-- and the generation
abbrev pub generation_in : Try Given → ℕ
generation_in (ok (reserved k)) = k.generation
generation_in (ok (evicted k)) = k.generation
generation_in a = 0

-- which word an answer of publish is
abbrev pub word_fine : Try Fine → ℕ
word_fine (ok done) = 0
word_fine (refuse n) = 1
