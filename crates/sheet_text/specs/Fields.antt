-- SPDX-License-Identifier: Apache-2.0
-- The fields of a call, by their places in the order of document 01, and the ranges of their values.
use Rattle.std.specs.Prelude.{ℕ, Bool, ◌&&◌, List, ltb, leb, get_or}
use Rattle.sheet_text.specs.declared.Ask.{Ask}
use Rattle.sheet_text.specs.declared.Field.{Field}

abbrev pub field : ℕ → Ask → Field
field value ask = record { value = value; ask = ask }

-- a field by its place
abbrev pub field_at : List Field → ℕ → Field
field_at fields k = get_or fields k (field 0 Ask.No)

abbrev pub value_at : List Field → ℕ → ℕ
value_at fields k = (field_at fields k).value

abbrev pub ask_at : List Field → ℕ → Ask
ask_at fields k = (field_at fields k).ask

-- the values are in their ranges
unfoldable pub within : List Field → Bool
within fields =
    ltb 0 (value_at fields 0) && leb (value_at fields 0) 9 && leb (value_at fields 2) 255 && leb (value_at fields 3) 15
    && leb (value_at fields 4) 4294967295
