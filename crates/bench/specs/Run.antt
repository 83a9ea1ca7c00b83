-- SPDX-License-Identifier: Apache-2.0
-- A run sheet through the rules of the calls that are timed, and the checksum of all that they answer. Loads are always allowed, no slot is
-- pinned, and no record is refused as bad.
use Rattle.std.specs.Prelude.{ℕ, zero, suc, ◌+◌, ◌/◌, ◌%◌, min, true, List, length, take, replicate, ◌==◌, slice_index, slice_index_or, slice_set, if◌then◌else◌}
use Rattle.std.specs.List.{fold}
use Rattle.std.proofs.Math.Option.{Option}
use Rattle.basics.specs.Try.{Try, ok, refuse}
use Rattle.basics.specs.Numbers.{NONE}
use Rattle.basics.specs.Answers.{Fine}
use Rattle.key.specs.declared.CacheKey.{CacheKey}
use Rattle.key.specs.Key.{no_key}
use Rattle.state.specs.declared.State.{State}
use Rattle.state.specs.declared.LoadToken.{LoadToken}
use Rattle.state.specs.Answers.{Given, hit, in_progress, reserved, evicted, busy, After}
use Rattle.state.specs.Fresh.{new}
use Rattle.state.specs.Access.{access}
use Rattle.state.specs.Tokens.{publish, abort}
use Rattle.state.specs.Lookup.{lookup}
use Rattle.state.specs.Reads.{peek_clean}
use Rattle.maintenance_reclaim.specs.Answers.{Reclaiming}
use Rattle.maintenance_reclaim.specs.Reclaim.{reclaim}
use Rattle.maintenance_resize.specs.Answers.{Resizing}
use Rattle.maintenance_resize.specs.Resize.{resize}
use Rattle.maintenance_resize.specs.Cost.{Costs, cost}
use Rattle.gate.specs.Gate.{at_first}
use Rattle.passage.specs.Access.{access_through}
use Rattle.batch.specs.Batch.{PEEK_BATCH, Peeking, peek_batch}
use Rattle.bench.specs.declared.Sum.{Sum}
use Rattle.bench.specs.Reel.{reel}
use Rattle.bench.specs.Sum.{no_sum, plus, word_of, access_number, done_number, found_number, size_number}

-- what stands between two records: the table, the token places, and the checksum so far
pub record Running : Type 0 where
  pub table : State
  pub tokens : List LoadToken
  pub sum : Sum

abbrev pub running : State → List LoadToken → Sum → Running
running t tokens sum = record { table = t; tokens = tokens; sum = sum }

-- before the first record: a table of one slot, and no token
abbrev pub no_token : LoadToken
no_token = record { slot = 0; generation = 0; key = no_key; access_sequence = 0 }

unfoldable pub start : Running
start = running (new 1).table (replicate 16 no_token) no_sum

-- the table after a call, with the number of its answer added; the token places stay
abbrev pub added : Running → State → ℕ → Running
added x t n = running t x.tokens (plus x.sum n)

-- the lists that are lent: one number for each slot of a table, at most 256
unfoldable pub lent_pins : State → List ℕ
lent_pins t = take (min t.capacity 256) (replicate 256 0)

unfoldable pub lent_list : State → List ℕ
lent_list t = take (min t.capacity 256) (replicate 256 NONE)

-- new, publish and abort; the table of a refused new is handed on too
unfoldable pub after_done : Running → After Fine → Running
after_done x a = added x a.table (done_number a.answer)

-- access: a reservation puts its token in the named place
unfoldable pub placed : List LoadToken → ℕ → Try Given → List LoadToken
placed tokens place (ok (hit slot)) = tokens
placed tokens place (ok in_progress) = tokens
placed tokens place (ok (reserved k)) = slice_set tokens place k
placed tokens place (ok (evicted k)) = slice_set tokens place k
placed tokens place (ok busy) = tokens
placed tokens place (refuse n) = tokens

unfoldable pub after_access : Running → ℕ → After Given → Running
after_access x place a = running a.table (placed x.tokens place a.answer) (plus x.sum (access_number a.answer))

-- the token in a place, by which publish and abort go
abbrev pub token_at : Running → ℕ → LoadToken
token_at x place = slice_index_or x.tokens place no_token

-- lookup
unfoldable pub after_lookup : Running → After (Option ℕ) → Running
after_lookup x a = added x a.table (found_number a.answer)

-- resize
unfoldable pub after_resize : Running → Resizing → Running
after_resize x a = added x a.table (size_number a.answer)

-- reclaim
unfoldable pub after_reclaim : Running → Reclaiming → Running
after_reclaim x a = added x a.table (word_of 10000 a.count)

-- one peek for 64 keys: its answer, the slots visited, and each number of the list; table and tokens stay
unfoldable pub after_batch : Running → Peeking → Running
after_batch x p = running x.table x.tokens (fold plus (plus (plus x.sum (done_number p.answer)) p.visited) p.list)

-- one peek for one key
unfoldable pub after_peek : Running → Try (Option ℕ) → Running
after_peek x found = added x x.table (found_number found)

-- what a resize will cost: its answer, the capacity, the keys dropped and the restores; table and tokens stay
unfoldable pub after_cost : Running → Costs → Running
after_cost x c = running x.table x.tokens (plus (plus (plus (plus x.sum (size_number c.answer)) c.capacity) c.drops) c.restores)

-- the calls by their codes. No run sheet has 10 to 13: access through a gate as at first, one peek for a reel's keys, one for one key, and what a
-- resize will cost. Reclaim is 9, and every code that is not timed counts as one.
unfoldable pub run_code : Running → ℕ → ℕ → ℕ → CacheKey → Running
run_code x code place number key =
    if code == 1 then after_done x (new number) else
    if code == 2 then after_access x place (access x.table key true (lent_pins x.table)) else
    if code == 3 then after_done x (publish x.table (token_at x place)) else
    if code == 4 then after_done x (abort x.table (token_at x place)) else
    if code == 5 then after_lookup x (lookup x.table key) else
    if code == 8 then after_resize x (resize x.table number (lent_pins x.table) (lent_list x.table)) else
    if code == 10 then after_access x place (access_through x.table at_first key true (lent_pins x.table)) else
    if code == 11 then after_batch x (peek_batch x.table (reel PEEK_BATCH key number) PEEK_BATCH (replicate PEEK_BATCH NONE)) else
    if code == 12 then after_peek x (peek_clean x.table key) else
    if code == 13 then after_cost x (cost x.table number (lent_pins x.table)) else
    after_reclaim x (reclaim x.table number (lent_pins x.table))

-- a record: three numbers of 8 bytes. The first holds code, kind, token place and number, the others are file and index.
abbrev pub code_of : ℕ → ℕ
code_of head = head % 256

abbrev pub place_of : ℕ → ℕ
place_of head = head / 16777216 % 16

abbrev pub number_of : ℕ → ℕ
number_of head = head / 4294967296

abbrev pub key_of : ℕ → ℕ → ℕ → CacheKey
key_of head file index = record { file = file; kind = head / 65536 % 256; index = index }

unfoldable pub run_record : Running → ℕ → ℕ → ℕ → Running
run_record x head file index = run_code x (code_of head) (place_of head) (number_of head) (key_of head file index)

-- the records left, from `at` on
unfoldable pub run_from : ℕ → List ℕ → ℕ → Running → Running
run_from zero sheet at x = x
run_from (suc left) sheet at x = run_from left sheet (at + 3) (run_record x (slice_index sheet at) (slice_index sheet (at + 1)) (slice_index sheet (at + 2)))

-- the counts of the table at the end are added last
unfoldable pub total : Running → ℕ
total x = (plus (plus (plus (plus (plus (plus x.sum
    x.table.counters.hits)
    x.table.counters.misses)
    x.table.counters.evictions)
    x.table.clean)
    x.table.loading)
    x.table.next_access_sequence).second

-- the checksum of a sheet; what is left over of a record at its end is not read
unfoldable pub checksum : List ℕ → ℕ
checksum sheet = total (run_from (length sheet / 3) sheet 0 start)
