-- SPDX-License-Identifier: Apache-2.0
-- `sheetform::text_of`: what is written, with the text of the records that are left; each of these has room. Assumes nothing.
use Rattle.std.proofs.Common.{◌≡◌, ◌+◌, ◌-◌, ◌/◌, ◌≤◌, ◌++◌, ◌*◌}
use Rattle.std.specs.Slice.Iter.{chunks_rest, chunks_size}
use Rattle.std.specs.Iterator.Adapters.{take_source, take_count}
use Rattle.arrayvec.specs.ArrayVec.{array_vec_len}
use Rattle.sheet_show.specs.Form.{listed_text}
use Rattle.sheetform.proofs.text_of.Given as goal

abbrev pub invariant-loop-record : goal.invariant-loop-record
invariant-loop-record g l =
    let chunks = take_source l.record-iterator in
    let left = take_count l.record-iterator in
    (chunks_size chunks ≡ 24)
    × (array_vec_len l.out + 200 * left ≤ g.row.N)
    × (l.shown + left ≤ l.room)
    × (l.out.items ++ listed_text left (chunks_rest chunks) ≡ l.initial.out.items ++ listed_text ((g.row.N - array_vec_len l.initial.out) / 200) l.bytes)
