-- SPDX-License-Identifier: Apache-2.0
-- The line of text that a record is shown as: the call's word with its number, then every field that is not what is usual, by its name. A record with
-- something in a field that its call does not use is shown as `record`, with every field that is not 0.
use Rattle.std.specs.Prelude.{ℕ, zero, suc, Bool, true, false, List, [], ◌∷◌, ◌++◌, eqb, length, drop, Option, Some, None, if◌then◌else◌}
use Rattle.sheet_lines.specs.declared.Record.{Record}
use Rattle.sheet_lines.specs.Record.{read_record}
use Rattle.sheet_lines.specs.Text.{bytes_of, decimal, NEWLINE}
use Rattle.sheet_record.specs.Good.{bit_of}
use Rattle.sheet_uses.specs.Uses.{uses_number, only_used}

-- a field with its name, where it is not what is usual
unfoldable pub field_text : List ℕ → ℕ → ℕ → List ℕ
field_text name value usual = if eqb value usual then [] else name ++ decimal value

-- the word of a call, with what stands before its number
unfoldable pub word_text : Bool → ℕ → List ℕ
word_text allow code =
    if eqb code 1 then bytes_of "new " else
    if eqb code 2 then bytes_of "access" else
    if eqb code 3 then bytes_of "publish" else
    if eqb code 4 then bytes_of "abort" else
    if eqb code 5 then bytes_of "lookup" else
    if eqb code 6 then bytes_of "remove slot=" else
    if eqb code 7 then (if allow then bytes_of "pin slot=" else bytes_of "unpin slot=") else
    if eqb code 8 then bytes_of "resize " else
    bytes_of "reclaim "

-- with its number, where the call uses one
unfoldable pub call_text : Record → List ℕ
call_text r = word_text r.allow r.code ++ (if uses_number r.code then decimal r.number else [])

-- the front of a line that tells every field
unfoldable pub record_text : Record → List ℕ
record_text r = bytes_of "record code=" ++ decimal r.code ++ field_text (bytes_of " number=") r.number 0

unfoldable pub head_text : Record → List ℕ
head_text r = if only_used r then call_text r else record_text r

-- what allow is where the line does not say it: 1 for an access, and the word says it of a pin
unfoldable pub usual_allow : Record → Bool
usual_allow r = if only_used r then (if eqb r.code 2 then true else if eqb r.code 7 then r.allow else false) else false

unfoldable pub shown : Record → List ℕ
shown r =
    head_text r
    ++ field_text (bytes_of " file=") r.key.file 0
    ++ field_text (bytes_of " kind=") r.key.kind 0
    ++ field_text (bytes_of " index=") r.key.index 0
    ++ field_text (bytes_of " allow=") (bit_of r.allow) (bit_of (usual_allow r))
    ++ field_text (bytes_of " place=") r.place 0
    ++ NEWLINE ∷ []

-- the lines of some records, up to the first that is bad, and of at most as many as steps are left
abbrev pub line_before : Option Record → List ℕ → List ℕ
line_before (Some r) more = shown r ++ more
line_before None more = []

unfoldable pub listed_text : ℕ → List ℕ → List ℕ
listed_text zero bytes = []
listed_text (suc left) bytes = if eqb (length bytes) 0 then [] else line_before (read_record bytes) (listed_text left (drop 24 bytes))
