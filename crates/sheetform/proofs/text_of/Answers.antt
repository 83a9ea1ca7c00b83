-- SPDX-License-Identifier: Apache-2.0
-- `sheetform::text_of` meets its contract. Assumes nothing.
use Rattle.std.proofs.Common.{rules, ◌≡◌, ◌+◌, ◌++◌, List, [], ℕ, sym, ◌∙◌, ap, arith, append_assoc, append-nil}
use Rattle.arrayvec.specs.ArrayVec.{array_vec_len}
use Rattle.sheet_show.specs.Form.{shown}
use Rattle.sheet_show.proofs.Laws.{listed_end, listed_bad, listed_more}
use Rattle.sheetform.proofs.text_of.Goals as goal

-- nothing is left to write
ends : (out left whole : List ℕ) → left ≡ [] → out ++ left ≡ whole → out ≡ whole
ends out left whole e all = sym (append-nil out) ∙ ap (λ l. out ++ l) (sym e) ∙ all

pub returns-in_default : goal.returns-in_default
returns-in_default g c =
    let steps = c.in-Some.ensures.steps in
    let bad = sym c.read_record.ensures.value ∙ c.in_default.is in
    ends _ _ _ (listed_bad _ _ _ steps.0.1.0 (rw c.loop-record.invariant.0 at steps.0.1.1) steps.0.1.2 _ _ steps.1 bad) c.loop-record.invariant.3

pub loop-record-preserved : goal.loop-record-preserved
loop-record-preserved g c =
    let turn = c.loop-record in
    let steps = c.in-Some.ensures.steps in
    let read = sym c.read_record.ensures.value ∙ c.in-Some-read_record.is in
    let more = listed_more _ _ _ steps.0.1.0 (rw turn.invariant.0 at steps.0.1.1) steps.0.1.2 _ _ steps.1 c.in-Some-read_record.call read in
    let put : c.try_extend_from_slice.new.self.items ≡ turn.out.items ++ shown c.in-Some-read_record.call = search rules in
    let size : array_vec_len c.try_extend_from_slice.new.self ≡ array_vec_len turn.out + array_vec_len c.show_record-text.result = search rules in (
      steps.0.0 ∙ turn.invariant.0,
      omega (arith, size, c.show_record-text.ensures.len_bound, turn.invariant.1, steps.1),
      omega (arith, turn.invariant.2, steps.1),
      rw put (append_assoc turn.out.items _ _ ∙ ap (λ l. turn.out.items ++ l) (sym more) ∙ turn.invariant.3),
    )

pub returns : goal.returns
returns g c = ends _ _ _ (listed_end _ _ (λ p. (c.in-None.ensures.steps p).1.0)) c.loop-record.invariant.3
