-- SPDX-License-Identifier: Apache-2.0
-- The fields that a call uses (document 01, "Run sheets"), and the records where every other field is 0.
use Rattle.std.specs.Prelude.{ℕ, Bool, true, false, ◌&&◌, eqb, ltb, leb, if◌then◌else◌}
use Rattle.sheet_lines.specs.declared.Record.{Record}
use Rattle.sheet_record.specs.Good.{bit_of}

-- "file, index" and kind: 2 access, 5 lookup
unfoldable pub uses_key : ℕ → Bool
uses_key code = if eqb code 2 then true else eqb code 5

-- "token place": 2 access, 3 publish, 4 abort
unfoldable pub uses_place : ℕ → Bool
uses_place code = if ltb code 2 then false else ltb code 5

-- "allow": 2 access, 7 set pin
unfoldable pub uses_allow : ℕ → Bool
uses_allow code = if eqb code 2 then true else eqb code 7

-- "the number is a capacity (1, 8), slot (6, 7) or limit (9)"
unfoldable pub uses_number : ℕ → Bool
uses_number code = if eqb code 1 then true else ltb 5 code

-- the fields by their order: 0 code, 1 allow, 2 kind, 3 place, 4 number, 5 file, 6 index; the code is no field of its own
unfoldable pub uses : ℕ → ℕ → Bool
uses code field =
    if eqb field 1 then uses_allow code else
    if eqb field 3 then uses_place code else
    if eqb field 4 then uses_number code else
    if eqb field 0 then false else
    uses_key code

-- a field is used, or is 0
unfoldable pub fits : Bool → ℕ → Bool
fits used value = if used then true else eqb value 0

unfoldable pub is_code : ℕ → Bool
is_code code = if eqb code 0 then false else leb code 9

-- the code is a call's, and every field that the call does not use is 0
unfoldable pub only_used : Record → Bool
only_used r =
    is_code r.code &&
    fits (uses_key r.code) r.key.file &&
    fits (uses_key r.code) r.key.kind &&
    fits (uses_key r.code) r.key.index &&
    fits (uses_place r.code) r.place &&
    fits (uses_allow r.code) (bit_of r.allow) &&
    fits (uses_number r.code) r.number
