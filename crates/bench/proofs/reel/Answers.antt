-- SPDX-License-Identifier: Apache-2.0
-- `reel` meets its contract: one key more, and none left. Assumes nothing.
use Rattle.std.proofs.Common.{◌≡◌, ℕ, suc, ◌+◌, ◌-◌, ◌<◌, [], ◌∷◌, length, take, sym, ◌∙◌, arith, take_all}
use Rattle.std.proofs.lemmas.List.{take_more_set, length-set, append_assoc, append-nil}
use Rattle.key.specs.declared.CacheKey.{CacheKey}
use Rattle.bench.specs.Reel.{further, reel}
use Rattle.bench.proofs.reel.Goals as goal

-- the first of the keys left
first_of : (n left : ℕ) (key : CacheKey) (stride : ℕ) → n ≡ suc left → reel n key stride ≡ key ∷ reel left (further key stride) stride
unfolding reel
first_of n left key stride e = rw e

none_left : (n : ℕ) (key : CacheKey) (stride : ℕ) → n ≡ 0 → reel n key stride ≡ []
unfolding reel
none_left n key stride e = rw e

pub loop-place-preserved : goal.loop-place-preserved
loop-place-preserved c =
    let keys = c.loop-place.keys in
    let place = c.loop-place.place in
    let next = c.loop-place.key in
    let left : reel (64 - place) next c.args.stride ≡ next ∷ reel (64 - (place + 1)) (further next c.args.stride) c.args.stride =
    first_of (64 - place) (64 - (place + 1)) next c.args.stride (omega arith) in
    let inside : place < length keys = omega arith in
    record {
      long = length-set keys place next ∙ c.loop-place.invariant.long;
      keys = rw (take_more_set keys place next inside, append_assoc, ← left) c.loop-place.invariant.keys;
    }

pub returns : goal.returns
returns c =
    let keys = c.loop-place.keys in
    let place = c.loop-place.place in
    let all : take place keys ≡ keys = take_all place keys (omega arith) in
    sym (append-nil keys)
    ∙ rw all at (rw (none_left (64 - place) c.loop-place.key c.args.stride (omega arith)) at c.loop-place.invariant.keys)
