-- SPDX-License-Identifier: Apache-2.0
-- What the private functions of the walk promise, place by place.
use Rattle.std.specs.Prelude.{ℕ, ◌+◌, ◌<◌, ◌≤◌, ◌≡◌, Bool, false, not, ◌&&◌, List, [], ◌∷◌, ltb, eqb, get_or, take, if◌then◌else◌}
use Rattle.std.specs.List.{list_any}
use Rattle.basics.specs.Try.{Try, ok, ◌>>=◌}
use Rattle.basics.specs.Numbers.{NONE}
use Rattle.key.specs.declared.CacheKey.{CacheKey}
use Rattle.key.specs.Key.{no_key}
use Rattle.state.specs.declared.Slot.{Slot}
use Rattle.state.specs.declared.State.{State}
use Rattle.batch.specs.Batch.{holds, visit_chain, clean_or_none, slot_for}

-- the keys at the places marked
unfoldable pub marked : List Bool → List CacheKey → List CacheKey
marked [] keys = []
marked (m ∷ marks) [] = []
marked (m ∷ marks) (key ∷ keys) = if m then key ∷ marked marks keys else marked marks keys

-- the key at a place, and whether the place is marked
abbrev pub asked_at : List CacheKey → ℕ → CacheKey
asked_at keys place = get_or keys place no_key

abbrev pub mark_at : List Bool → ℕ → Bool
mark_at marks place = get_or marks place false

-- only places from `first` to `end` are marked
pub record Between (marks : List Bool) (first end : ℕ) : Type 0 where
  pub before : (p : ℕ) → p < first → p < 64 → mark_at marks p ≡ false
  pub behind : (p : ℕ) → end ≤ p → p < 64 → mark_at marks p ≡ false

-- what a visit of a slot, under its number, does at a place: a key that is sought and that it holds is sought no more, and answered
abbrev pub still_sought : Slot → Bool → CacheKey → Bool
still_sought held sought key = sought && not (holds held key)

abbrev pub answered : Slot → ℕ → Bool → CacheKey → ℕ → ℕ
answered held number sought key before = if sought && holds held key then clean_or_none held number else before

-- the slots visited so far, and those of the rest of the walk
abbrev pub visited_more : ℕ → Try ℕ → Try ℕ
visited_more visited rest = rest >>= λ n. ok (visited + n)

-- whether a bucket is that of one of the keys at the first places
abbrev pub walked_to : List ℕ → ℕ → ℕ → Bool
walked_to buckets places bucket = list_any (λ b. eqb b bucket) (take places buckets)

-- the walks of those buckets
abbrev pub walks_to : State → List CacheKey → List ℕ → ℕ → ℕ → Try ℕ
walks_to t keys buckets places bucket = if walked_to buckets places bucket then visit_chain t keys bucket else ok 0

-- what stands at a place: the answer of a key whose bucket was walked
abbrev pub filled_to : State → List CacheKey → List ℕ → ℕ → ℕ → ℕ → ℕ
filled_to t keys buckets count places place =
    if ltb place count && walked_to buckets places (get_or buckets place 0) then slot_for t (asked_at keys place) else NONE
