-- SPDX-License-Identifier: Apache-2.0
-- What a line of text says: its first word is the call, and each word behind it is `name=value`, or the call's number alone. `#` begins a comment.
-- A call takes the fields that it uses, each at most once, and one that uses the number needs it; `record` takes every field, and needs the code.
-- Where a line is wrong, the word that is wrong is told by its place in the line.
use Rattle.std.specs.Prelude.{ℕ, zero, suc, ◌+◌, ◌-◌, ◌*◌, Bool, true, false, not, ◌&&◌, List, [], ◌∷◌, Option, Some, None, Result, Ok, Err}
use Rattle.std.specs.Prelude.{eqb, ltb, leb, length, take, drop, set, if◌then◌else◌}
use Rattle.std.specs.Str.{bytes_eq}
use Rattle.sheet_text.specs.Fields.{field, value_at, ask_at}
use Rattle.sheet_text.specs.Find.{index_of}
use Rattle.sheet_lines.specs.declared.Record.{Record}
use Rattle.sheet_lines.specs.Text.{bytes_of}
use Rattle.sheet_record.specs.Good.{good}
use Rattle.sheet_uses.specs.Uses.{uses}
use Rattle.sheet_text.specs.declared.Why.{Why}
use Rattle.sheet_text.specs.declared.Ask.{Ask}
use Rattle.sheet_text.specs.declared.Field.{Field}
use Rattle.sheet_text.specs.declared.Begun.{Begun}
use Rattle.sheet_text.specs.declared.Span.{Span}
use Rattle.sheet_text.specs.declared.Fault.{Fault}

-- goes on with what an answer holds
abbrev pub and_then : {A B E : Type 0} → Result A E → (A → Result B E) → Result B E
and_then (Ok a) go = go a
and_then (Err e) go = Err e

-- a space, a tab, a carriage return
unfoldable pub is_blank : ℕ → Bool
is_blank b = if eqb b 32 then true else if eqb b 9 then true else eqb b 13

-- whether a byte is blank (`blank` is true), or is not
unfoldable pub counts_as : Bool → ℕ → Bool
counts_as blank b = if is_blank b then blank else not blank

-- how many bytes in front are so
unfoldable pub run_of : Bool → List ℕ → ℕ
run_of blank [] = 0
run_of blank (b ∷ rest) = if counts_as blank b then suc (run_of blank rest) else 0

-- a text without the blanks in front, its first word, and what stands behind that
abbrev pub skip : List ℕ → List ℕ
skip text = drop (run_of true text) text

abbrev pub word_size : List ℕ → ℕ
word_size text = run_of false (skip text)

abbrev pub word : List ℕ → List ℕ
word text = take (word_size text) (skip text)

abbrev pub behind : List ℕ → List ℕ
behind text = drop (word_size text) (skip text)

-- the first word of a text that begins at a place of its line
abbrev pub word_from : ℕ → List ℕ → ℕ
word_from at text = at + run_of true text

abbrev pub word_to : ℕ → List ℕ → ℕ
word_to at text = word_from at text + word_size text

abbrev pub span_at : ℕ → List ℕ → Span
span_at at text = record { from = word_from at text; to = word_to at text }

-- it, if there is one
abbrev pub next_word : ℕ → List ℕ → Option Span
next_word at text = if eqb (word_size text) 0 then None else Some (span_at at text)

-- the place of a word in a list of names, from 0, of which there are at most as many as steps are left; how many there are where it is none of them
unfoldable pub place_in : ℕ → List ℕ → List ℕ → ℕ
place_in zero names w = 0
place_in (suc left) names w =
    if eqb (word_size names) 0 then 0 else
    if bytes_eq w (word names) then 0 else
    suc (place_in left (behind names) w)

abbrev pub word_place : List ℕ → List ℕ → ℕ
word_place names w = place_in (length names) names w

-- the number that digits say, behind the number n of those before them: at least one digit, and below 2^64
unfoldable pub number_from : ℕ → List ℕ → Result ℕ Why
number_from n [] = Ok n
number_from n (b ∷ rest) =
    if ltb b 48 then Err Why.NoNumber else
    if ltb 57 b then Err Why.NoNumber else
    if ltb 18446744073709551615 (n * 10 + (b - 48)) then Err Why.Range else
    number_from (n * 10 + (b - 48)) rest

unfoldable pub number_of : List ℕ → Result ℕ Why
number_of digits = if eqb (length digits) 0 then Err Why.NoNumber else number_from 0 digits

-- ---- the fields, in the order of document 01: 0 code, 1 allow, 2 kind, 3 place, 4 number, 5 file, 6 index; `slot` is another name of the number
abbrev pub field_names : List ℕ
field_names = bytes_of "code allow kind place number file index slot"

unfoldable pub field_of : List ℕ → ℕ
field_of name = if eqb (word_place field_names name) 7 then 4 else word_place field_names name

-- the least and the greatest value of each
unfoldable pub least : ℕ → ℕ
least field = if eqb field 0 then 1 else 0

unfoldable pub most : ℕ → ℕ
most field =
    if eqb field 0 then 9 else
    if eqb field 1 then 1 else
    if eqb field 2 then 255 else
    if eqb field 3 then 15 else
    if eqb field 4 then 4294967295 else
    18446744073709551615

abbrev pub ask : Bool → Ask → Ask
ask used what = if used then what else Ask.No

-- a call before its fields are read: what it asks of each, and the values that count where a line does not name them. Of a pin its word says allow
unfoldable pub plain_call : ℕ → ℕ → Begun
plain_call code allow =
    field code Ask.No ∷ field allow (ask (eqb code 2) Ask.May) ∷ field 0 (ask (uses code 5) Ask.May) ∷ field 0 (ask (uses code 3) Ask.May)
    ∷ field 0 (ask (uses code 4) Ask.Must) ∷ field 0 (ask (uses code 5) Ask.May) ∷ field 0 (ask (uses code 5) Ask.May) ∷ []

-- the calls, in the order of their codes from 1; `unpin` is call 7 too, with allow 0; `record` names its code
abbrev pub call_names : List ℕ
call_names = bytes_of "new access publish abort lookup remove pin resize reclaim unpin record"

unfoldable pub call_of : List ℕ → ℕ
call_of w = word_place call_names w

-- an access allows a load where its line does not say
unfoldable pub begin : ℕ → Begun
begin call =
    if eqb call 10 then
    field 1 Ask.Must ∷ field 0 Ask.May ∷ field 0 Ask.May ∷ field 0 Ask.May ∷ field 0 Ask.May ∷ field 0 Ask.May ∷ field 0 Ask.May ∷ [] else
    if eqb call 9 then plain_call 7 0 else
    if eqb call 1 then plain_call 2 1 else
    if eqb call 6 then plain_call 7 1 else
    plain_call (call + 1) 0

-- ---- the words behind a call
-- a field that may be named goes on
abbrev pub named : Ask → Result Begun Why → Result Begun Why
named Ask.No go = Err Why.Unused
named Ask.May go = go
named Ask.Must go = go
named Ask.Was go = Err Why.Twice

-- a call with a field
unfoldable pub with_value : Begun → ℕ → ℕ → Result Begun Why
with_value b k v = named (ask_at b k) (
    if ltb v (least k) then Err Why.Range else
    if ltb (most k) v then Err Why.Range else
    Ok (set b k (field v Ask.Was)))

-- with a word: the number, or what stands before and behind `=`
unfoldable pub with_word : Begun → List ℕ → Result Begun Why
with_word b w =
    if eqb (index_of 61 w) (length w) then and_then (number_of w) (λ v. with_value b 4 v) else
    if ltb 6 (field_of (take (index_of 61 w) w)) then Err Why.NoField else
    and_then (number_of (drop (index_of 61 w + 1) w)) (λ v. with_value b (field_of (take (index_of 61 w) w)) v)

-- the record that the values are
unfoldable pub record_of : List Field → Record
record_of fields = record {
  code = value_at fields 0;
  allow = eqb (value_at fields 1) 1;
  place = value_at fields 3;
  number = value_at fields 4;
  key = record { file = value_at fields 5; kind = value_at fields 2; index = value_at fields 6 };
}

abbrev pub faulty : {A : Type 0} → Why → Span → Result A Fault
faulty why word = Err (record { why = why; word = word })

-- a field that must be named is named
abbrev pub met : Ask → Span → Result Record Fault → Result Record Fault
met Ask.No call go = go
met Ask.May call go = go
met Ask.Must call go = faulty Why.Missing call
met Ask.Was call go = go

-- a call with all its words: what it must name is named; its first word is told
unfoldable pub finished : Begun → Span → Result Record Fault
finished b call = met (ask_at b 0) call (met (ask_at b 4) call (Ok (record_of b)))

-- goes on with a call, or tells the word that is wrong
abbrev pub going : Result Begun Why → Span → (Begun → Result Record Fault) → Result Record Fault
going (Ok b) word go = go b
going (Err why) word go = faulty why word

-- a call with the words behind it, of which there are at most as many as steps are left: they begin at a place of the line
unfoldable pub with_words : ℕ → Begun → Span → ℕ → List ℕ → Result Record Fault
with_words zero b call at text = finished b call
with_words (suc left) b call at text =
    if eqb (word_size text) 0 then finished b call else
    going (with_word b (word text)) (span_at at text) (λ next. with_words left next call (word_to at text) (behind text))

-- a line without its comment: a call, nothing, or what is wrong
unfoldable pub text_says : List ℕ → Result (Option Record) Fault
text_says text =
    if eqb (word_size text) 0 then Ok None else
    if ltb 10 (call_of (word text)) then faulty Why.NoCall (span_at 0 text) else
    and_then (with_words (length text) (begin (call_of (word text))) (span_at 0 text) (word_to 0 text) (behind text)) (λ r. Ok (Some r))

unfoldable pub line_says : List ℕ → Result (Option Record) Fault
line_says line = text_says (take (index_of 35 line) line)

-- ---- what holds of every line
-- a word that is wrong stands in the line
abbrev pub in_line : ℕ → Fault → Bool
in_line size fault = leb fault.word.from fault.word.to && leb fault.word.to size

-- a line that says a call says one that a sheet holds
abbrev pub good_call : ℕ → Result Record Fault → Bool
good_call size (Ok r) = good r
good_call size (Err fault) = in_line size fault

abbrev pub good_line : ℕ → Result (Option Record) Fault → Bool
good_line size (Ok (Some r)) = good r
good_line size (Ok None) = true
good_line size (Err fault) = in_line size fault
