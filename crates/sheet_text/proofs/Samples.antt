-- SPDX-License-Identifier: Apache-2.0
-- The line of a record says the record again: each call, with fields at and off what is usual, used and unused. Lines that are wrong, each with the word
-- that is wrong. Assumes nothing.
use Prim.Native.Nat.{ℕ, ◌-◌}
use mathlib.Core.Path.{◌≡◌, refl}
use mathlib.Core.Bool.{Bool, true, false}
use mathlib.Core.List.{List, [], ◌∷◌, map}
use Prim.Native.String.{String}
use lib.ListN.{length, take}
use Rattle.sheet_text.specs.Find.{index_of}
use Rattle.sheet_lines.specs.declared.Record.{Record}
use Rattle.sheet_lines.specs.Text.{bytes_of, digits_from, decimal}
use Rattle.sheet_uses.specs.Uses.{uses_key, uses_place, uses_allow, uses_number, uses, fits, is_code, only_used}
use Rattle.sheet_show.specs.Form.{field_text, word_text, call_text, record_text, head_text, usual_allow, shown}
use Rattle.std.proofs.Common.{Option, Some, Result, Ok}
use Rattle.sheet_text.specs.declared.Why.{Why}
use Rattle.sheet_text.specs.declared.Fault.{Fault}
use Rattle.sheet_text.specs.Parse.{is_blank, counts_as, run_of, place_in, number_from, number_of, field_of, least, most, plain_call, call_of, begin, with_value, with_word, record_of, faulty, finished, with_words, text_says, line_says}

unfoldable pub call : ℕ → Bool → ℕ → ℕ → ℕ → ℕ → ℕ → Record
call code allow kind place number file index = record { code = code; allow = allow; place = place; number = number; key = record { file = file; kind = kind; index = index } }

unfoldable pub samples : List Record
unfolding call
samples =
    call 1 false 0 0 4 0 0
    ∷ call 1 true 1 2 0 3 4
    ∷ call 2 true 255 15 0 7 18446744073709551615
    ∷ call 2 false 0 0 4294967295 18446744073709551615 0
    ∷ call 3 false 0 1 0 0 0
    ∷ call 4 true 0 0 0 0 0
    ∷ call 5 false 2 0 0 7 3
    ∷ call 6 false 0 0 2 0 0
    ∷ call 7 true 0 0 2 0 0
    ∷ call 7 false 9 9 0 9 9
    ∷ call 8 false 0 0 8 0 0
    ∷ call 9 true 0 3 70 0 0
    ∷ []

-- a line without its end
unfoldable pub line_of : Record → List ℕ
line_of r = take (length (shown r) - 1) (shown r)

pub said_again : map (λ r. line_says (line_of r)) samples ≡ map (λ r. Ok (Some r)) samples
unfolding call samples line_of index_of bytes_of digits_from decimal uses_key uses_place uses_allow uses_number uses fits is_code only_used field_text word_text call_text record_text head_text usual_allow shown is_blank counts_as run_of place_in number_from number_of field_of least most plain_call call_of begin with_value with_word record_of finished with_words text_says line_says
said_again = refl

-- lines that are wrong
unfoldable pub wrong_lines : List String
wrong_lines =
    "make 4"
    ∷ "publish plase=2"
    ∷ "new x"
    ∷ "pin slot="
    ∷ "publish place=16"
    ∷ "new 4294967296"
    ∷ "publish 2"
    ∷ "unpin 3 allow=1"
    ∷ "new 4 5"
    ∷ "  remove # 2"
    ∷ "record file=3"
    ∷ []

unfoldable pub wrong : Why → ℕ → ℕ → Result (Option Record) Fault
wrong why from to = faulty why (record { from = from; to = to })

pub told : map (λ w. line_says (bytes_of w)) wrong_lines
    ≡ wrong Why.NoCall 0 4
    ∷ wrong Why.NoField 8 15
    ∷ wrong Why.NoNumber 4 5
    ∷ wrong Why.NoNumber 4 9
    ∷ wrong Why.Range 8 16
    ∷ wrong Why.Range 4 14
    ∷ wrong Why.Unused 8 9
    ∷ wrong Why.Unused 8 15
    ∷ wrong Why.Twice 6 7
    ∷ wrong Why.Missing 2 8
    ∷ wrong Why.Missing 0 6
    ∷ []
unfolding wrong_lines wrong index_of bytes_of uses_key uses_place uses_allow uses_number uses is_blank counts_as run_of place_in number_from number_of field_of least most plain_call call_of begin with_value with_word record_of finished with_words text_says line_says
told = refl
