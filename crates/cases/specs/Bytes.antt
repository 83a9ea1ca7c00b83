-- SPDX-License-Identifier: Apache-2.0
-- Numbers and calls in bytes, as oracle/README.md has them.
use Rattle.std.specs.Prelude.{ℕ, zero, suc, ◌+◌, ◌*◌, min, not, List, [], ◌∷◌, eqb, get_or}
use Rattle.basics.specs.Numbers.{NONE}
use Rattle.key.specs.declared.CacheKey.{CacheKey}
use Rattle.cases.specs.declared.Call.{Call}

-- past the end of any bytes that are read
abbrev pub FAR : ℕ
FAR = 1048576

-- a place some bytes on
abbrev pub over : ℕ → ℕ → ℕ
over at bytes = min (at + bytes) FAR

-- past the end there are zeros
abbrev pub byte_at : List ℕ → ℕ → ℕ
byte_at bytes at = get_or bytes at 0

-- "numbers low byte first", of so many bytes
unfoldable pub low : ℕ → List ℕ → ℕ → ℕ
low zero bytes at = 0
low (suc n) bytes at = byte_at bytes at + 256 * low n bytes (over at 1)

-- so many of them, of 8 bytes each
unfoldable pub numbers_at : ℕ → List ℕ → ℕ → List ℕ
numbers_at zero bytes at = []
numbers_at (suc n) bytes at = low 8 bytes at ∷ numbers_at n bytes (over at 8)

-- "file, kind, index of the key"
abbrev pub key_at : List ℕ → ℕ → CacheKey
key_at bytes at = record { file = low 8 bytes at; kind = byte_at bytes (over at 8); index = low 8 bytes (over at 9) }

-- "code, allow, number of pin bytes, length of resize's list, number, file, kind, index, generation, use number"; a slot has two bytes in a token
unfoldable pub call_at : List ℕ → ℕ → Call
call_at bytes at =
    record {
      code = byte_at bytes at;
      allow = not (eqb (byte_at bytes (over at 1)) 0);
      pins = low 2 bytes (over at 2);
      list = low 2 bytes (over at 4);
      number = low 8 bytes (over at 6);
      token =
          record {
            slot = min (low 8 bytes (over at 6)) NONE;
            generation = low 8 bytes (over at 31);
            key = key_at bytes (over at 14);
            access_sequence = low 8 bytes (over at 39);
          };
    }
