-- SPDX-License-Identifier: Apache-2.0
-- "Each line has five fields: record number from 0; answer; a number or `-`; clean slots; loading slots."
use Rattle.std.specs.Prelude.{ℕ, Bool, true, false, List, [], ◌∷◌, ◌++◌, if◌then◌else◌}
use Rattle.sheet_lines.specs.declared.Said.{Said}
use Rattle.arrayvec.specs.ArrayVec.{ArrayVec}
use Rattle.sheet_lines.specs.Text.{bytes_of, decimal, SPACE, NEWLINE}

-- "Words: made hit loading reserved evicted busy done none unchanged resized reclaimed refused", and `bad`
abbrev pub word_of : Said → List ℕ
word_of (Said.Made c) = bytes_of "made"
word_of (Said.Hit slot) = bytes_of "hit"
word_of Said.Loading = bytes_of "loading"
word_of (Said.Reserved slot) = bytes_of "reserved"
word_of (Said.Evicted slot) = bytes_of "evicted"
word_of Said.Busy = bytes_of "busy"
word_of Said.Done = bytes_of "done"
word_of Said.Nothing = bytes_of "none"
word_of Said.Unchanged = bytes_of "unchanged"
word_of (Said.Resized c) = bytes_of "resized"
word_of (Said.Reclaimed n) = bytes_of "reclaimed"
word_of (Said.Refused n) = bytes_of "refused"
word_of Said.Bad = bytes_of "bad"

-- "the other words have `-`"
abbrev pub DASH : List ℕ
DASH = 45 ∷ []

-- "The number is the slot for hit, reserved and evicted, the capacity for made and resized, the count for reclaimed, the refusal for refused"
abbrev pub number_of : Said → List ℕ
number_of (Said.Made c) = decimal c
number_of (Said.Hit slot) = decimal slot
number_of Said.Loading = DASH
number_of (Said.Reserved slot) = decimal slot
number_of (Said.Evicted slot) = decimal slot
number_of Said.Busy = DASH
number_of Said.Done = DASH
number_of Said.Nothing = DASH
number_of Said.Unchanged = DASH
number_of (Said.Resized c) = decimal c
number_of (Said.Reclaimed n) = decimal n
number_of (Said.Refused n) = decimal n
number_of Said.Bad = DASH

-- `bad` ends the run
abbrev pub is_bad : Said → Bool
is_bad (Said.Made c) = false
is_bad (Said.Hit slot) = false
is_bad Said.Loading = false
is_bad (Said.Reserved slot) = false
is_bad (Said.Evicted slot) = false
is_bad Said.Busy = false
is_bad Said.Done = false
is_bad Said.Nothing = false
is_bad Said.Unchanged = false
is_bad (Said.Resized c) = false
is_bad (Said.Reclaimed n) = false
is_bad (Said.Refused n) = false
is_bad Said.Bad = true

-- what stands behind the word: nothing behind `bad`, else the other three fields
unfoldable pub tail_of : Said → ℕ → ℕ → List ℕ
tail_of said clean loading =
    if is_bad said then NEWLINE ∷ [] else
    SPACE ∷ number_of said ++ SPACE ∷ decimal clean ++ SPACE ∷ decimal loading ++ NEWLINE ∷ []

-- a record's line: "prints its number and `bad`", else the five fields
unfoldable pub line_of : ℕ → Said → ℕ → ℕ → List ℕ
line_of n said clean loading = decimal n ++ SPACE ∷ word_of said ++ tail_of said clean loading

-- the code's text
abbrev pub text_of : ArrayVec ℕ → List ℕ
text_of t = t.items
