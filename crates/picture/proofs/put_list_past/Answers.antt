-- SPDX-License-Identifier: Apache-2.0
-- `picture::put_list_past` meets its contract. Assumes nothing.
use Rattle.std.proofs.Common.{◌-◌, ◌≡◌, not, [], ◌∷◌, ◌∙◌, length, take, drop, rules}
use Rattle.std.specs.List.{count_by}
use Rattle.std.proofs.lemmas.List.{take_rest}
use native.Mathlib.Omega.{arith}
use mathlib.Core.Path.{ap}
use mathlib.Core.Bool.{false}
use Rattle.picture_numbers.specs.Numbers.{spaced, all_zero}
use Rattle.picture_numbers.proofs.Laws.{wrote_as, one_number}
use Rattle.picture.proofs.Laws.{told_start, place_more, past_none, past_end, count_held}
use Rattle.picture.proofs.put_list_past.Goals as goal

pub loop-i-init : goal.loop-i-init
loop-i-init g c = told_start g.T.Place.stand (c.count-held.result ∷ []) c.min-from.result (one_number _ (omega arith) c.put.ensures)

pub loop-i-preserved : goal.loop-i-preserved
loop-i-preserved g c =
    place_more g.T.Place.stand (c.count-held.result ∷ []) false c.min-from.result _ _ c.index-behind-i.result (omega arith) c.index-behind-i.is c.loop-i.invariant c.put_place.ensures

pub returns-then-held-eq0 : goal.returns-then-held-eq0
returns-then-held-eq0 g c =
    let f = g.T.Place.stand in
    let xs = c.args.list.now in
    let ys = take (length xs - c.min-from.result) (drop c.min-from.result xs) in
    let n : c.count-held.result ≡ count_by (λ x. not (all_zero (f x))) ys = search rules in
    let none = past_none f xs ys c.args.length c.min-from.result c.count-held.result (omega arith) (take_rest xs c.min-from.result) (n ∙ count_held f ys) c.if-held-eq0.true in
    wrote_as (ap spaced none) (one_number _ (omega arith) c.put.ensures)

pub returns : goal.returns
returns g c =
    let f = g.T.Place.stand in
    let xs = c.args.list.now in
    let ys = take (length xs - c.min-from.result) (drop c.min-from.result xs) in
    let n : c.count-held.result ≡ count_by (λ x. not (all_zero (f x))) ys = search rules in
    wrote_as (ap spaced (past_end f xs ys c.args.length c.min-from.result c.loop-i.i c.count-held.result (omega arith) (take_rest xs c.min-from.result) (omega arith) (n ∙ count_held f ys)))
    c.loop-i.invariant
