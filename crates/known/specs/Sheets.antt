-- SPDX-License-Identifier: Apache-2.0
-- Run sheets in bytes, and what is compared: what a sheet prints, and the table that it leaves.
use Rattle.std.specs.Prelude.{ℕ, zero, suc, ◌-◌, ◌*◌, ◌/◌, ◌%◌, Bool, true, false, ◌&&◌, List, [], ◌∷◌, ◌++◌, map, eqb, take}
use Rattle.std.proofs.Math.Option.{Option, none, some}
use Rattle.basics.specs.Try.{Try, ok, refuse}
use Rattle.eviction.specs.declared.Entry.{Entry}
use Rattle.state.specs.declared.State.{State}
use Rattle.sheet_standing.specs.declared.Standing.{Standing}
use Rattle.sheet_steps.specs.Standing.{start}
use Rattle.sheet.specs.Run.{run_all}

-- a number in some bytes, low byte first
unfoldable pub in_bytes : ℕ → ℕ → List ℕ
in_bytes zero n = []
in_bytes (suc more) n = n % 256 ∷ in_bytes more (n / 256)

-- "code, allow (0 or 1), kind, token place (0 to 15), a 32-bit number, file, index"; the kind is 0
unfoldable pub record24 : ℕ → ℕ → ℕ → ℕ → ℕ → ℕ → List ℕ
record24 code allow place number file index = code ∷ allow ∷ 0 ∷ place ∷ in_bytes 4 number ++ in_bytes 8 file ++ in_bytes 8 index

-- the codes; loads are allowed. Key A is of file 1, key B of file 2 and so on
abbrev pub make : ℕ → List ℕ
make capacity = record24 1 0 0 capacity 0 0

abbrev pub access : ℕ → ℕ → List ℕ
access place file = record24 2 1 place 0 file 0

abbrev pub publish : ℕ → List ℕ
publish place = record24 3 0 place 0 0 0

abbrev pub abort : ℕ → List ℕ
abort place = record24 4 0 place 0 0 0

abbrev pub lookup : ℕ → List ℕ
lookup file = record24 5 0 0 0 file 0

abbrev pub pin : ℕ → List ℕ
pin slot = record24 7 1 0 slot 0 0

abbrev pub resize : ℕ → List ℕ
resize capacity = record24 8 0 0 capacity 0 0

-- a key reserved and published
abbrev pub load : ℕ → List ℕ
load file = access 0 file ++ publish 0

-- a key of the file with sum 2048 reserved: a file turned left by 5 bits is 32 times the file. Keys of one bucket, which file + kind + index would spread
abbrev pub mate : ℕ → List ℕ
mate file = record24 2 1 0 0 file (2048 - 32 * file)

-- so n keys
unfoldable pub chain : ℕ → List ℕ
chain zero = []
chain (suc n) = mate n ++ chain n

-- what stands after a sheet
unfoldable pub after : List ℕ → Standing
after sheet = (run_all start 0 sheet).standing

-- what a sheet prints from there on, with record numbers from 0
unfoldable pub prints : Standing → List ℕ → List ℕ
prints s sheet = (run_all s 0 sheet).text

-- the table that it leaves
unfoldable pub leaves : Standing → List ℕ → State
leaves s sheet = (run_all s 0 sheet).standing.state

-- the slots of the heap, place by place
unfoldable pub heap_slots : State → List ℕ
heap_slots t = map (λ (e : Entry). e.slot) (take t.eviction.len t.eviction.entries)

-- a slot, or 65535
unfoldable pub slot_or : Try (Option ℕ) → ℕ
slot_or (ok (some slot)) = slot
slot_or (ok none) = 65535
slot_or (refuse n) = 65535

-- two lists of numbers are the same
unfoldable pub same : List ℕ → List ℕ → Bool
same [] [] = true
same [] (b ∷ bs) = false
same (a ∷ l) [] = false
same (a ∷ l) (b ∷ bs) = eqb a b && same l bs
