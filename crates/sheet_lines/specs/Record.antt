-- SPDX-License-Identifier: Apache-2.0
-- "24-byte records .. numbers low byte first: code, allow (0 or 1), kind, token place (0 to 15), a 32-bit number, file, index."
use Rattle.std.specs.Prelude.{ℕ, zero, suc, ◌+◌, ◌*◌, Bool, ◌&&◌, List, ltb, leb, eqb, length, get_or, Option, Some, None, if◌then◌else◌}
use Rattle.sheet_lines.specs.declared.Record.{Record}

-- the byte at a place
abbrev pub byte_at : List ℕ → ℕ → ℕ
byte_at bytes at = get_or bytes at 0

-- a number of some bytes from a place on, "low byte first"
unfoldable pub low : ℕ → List ℕ → ℕ → ℕ
low zero bytes at = 0
low (suc more) bytes at = byte_at bytes at + 256 * low more bytes (at + 1)

-- "a short tail", "An unknown code" (the codes are 1 to 9), "a field off its range (used or not)": none of these
unfoldable pub in_range : List ℕ → Bool
in_range bytes = leb 24 (length bytes) && ltb 0 (byte_at bytes 0) && leb (byte_at bytes 0) 9 && leb (byte_at bytes 1) 1 && leb (byte_at bytes 3) 15

-- the fields, in the order of their places
unfoldable pub fields_of : List ℕ → Record
fields_of bytes = record {
  code = byte_at bytes 0;
  allow = eqb (byte_at bytes 1) 1;
  place = byte_at bytes 3;
  number = low 4 bytes 4;
  key = record { kind = byte_at bytes 2; file = low 8 bytes 8; index = low 8 bytes 16 };
}

-- the record at the front of the bytes
unfoldable pub read_record : List ℕ → Option Record
read_record bytes = if in_range bytes then Some (fields_of bytes) else None

-- a token place, which the code reads from an array of 16
abbrev pub place_of : Option Record → ℕ
place_of (Some r) = r.place
place_of None = 0
