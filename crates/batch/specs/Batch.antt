-- SPDX-License-Identifier: Apache-2.0
-- Document 02: "The profile screen wants up to 64 keys answered in one peek: for each, in order, the clean slot or none, in a lent list."
use Rattle.std.specs.Prelude.{ℕ, zero, suc, ◌+◌, Bool, not, ◌&&◌, List, leb, eqb, length, get_or, map, take, if◌then◌else◌}
use Rattle.basics.specs.Try.{Try, ok, refuse, ◌>>=◌, ◌>>◌, need}
use Rattle.basics.specs.Refusals.{STOP, KEYS}
use Rattle.basics.specs.Numbers.{NONE}
use Rattle.basics.specs.Lists.{keep}
use Rattle.basics.specs.Answers.{Fine, done}
use Rattle.key.specs.declared.CacheKey.{CacheKey}
use Rattle.key.specs.Key.{same_key}
use Rattle.key.specs.Bucket.{bucket_of}
use Rattle.index.specs.Chain.{CHAIN, head_of, next_of, walked}
use Rattle.state.specs.declared.Slot.{Slot}
use Rattle.state.specs.declared.State.{State}
use Rattle.state.specs.Slots.{slot_at, is_clean, occupied}
use Rattle.state.specs.Fresh.{sound}

-- "up to 64 keys"
abbrev pub PEEK_BATCH : ℕ
PEEK_BATCH = 64

-- a slot in which a key "is found, clean or loading"
unfoldable pub holds : Slot → CacheKey → Bool
holds s key = occupied s && same_key s.key key

-- ── the number of slots visited ──
-- the keys that the slot does not hold
abbrev pub unfound : Slot → List CacheKey → List CacheKey
unfound s keys = keep (λ key. not (holds s key)) keys

-- "or the chain ends", with steps left: nothing is visited. A length kept that is not what was walked is met with 10, as in every search.
abbrev pub end_of_chain : ℕ → ℕ → Try ℕ
end_of_chain kept left = do
  need (walked kept left) STOP
  ok 0

-- the slots visited of a chain for which this length is kept, from `slot` on, "until every key asked of it is found, clean or loading, or the chain ends"
unfoldable pub visit_from : ℕ → State → ℕ → List CacheKey → ℕ → Try ℕ
visit_from zero t kept keys slot =
    if eqb (length keys) 0 then ok 0 else
    if eqb slot NONE then end_of_chain kept 0 else refuse STOP
visit_from (suc left) t kept keys slot =
    if eqb (length keys) 0 then ok 0 else
    if eqb slot NONE then end_of_chain kept (suc left) else
    if leb t.capacity slot then refuse STOP else do
      n ← visit_from left t kept (unfound (slot_at t slot) keys) (next_of t.index slot)
      ok (suc n)

-- the keys asked of a bucket's chain
abbrev pub asked_of : State → ℕ → List CacheKey → List CacheKey
asked_of t bucket keys = keep (λ key. eqb (bucket_of key t.index.buckets) bucket) keys

-- the walk of it
unfoldable pub visit_chain : State → List CacheKey → ℕ → Try ℕ
visit_chain t keys bucket = visit_from CHAIN t (get_or t.index.lengths bucket 0) (asked_of t bucket keys) (get_or t.index.heads bucket 0)

-- what f gives for 0 to n − 1, added up; the first refusal ends it
unfoldable pub total : (ℕ → Try ℕ) → ℕ → Try ℕ
total f zero = ok 0
total f (suc n) = do
  a ← total f n
  b ← f n
  ok (a + b)

-- "Each bucket's chain is walked once"
abbrev pub visit_chains : State → List CacheKey → Try ℕ
visit_chains t keys = total (visit_chain t keys) t.index.buckets

-- ── the answers ──
-- "the clean slot or none" ("None is 65535"), in a slot that holds the key
abbrev pub clean_or_none : Slot → ℕ → ℕ
clean_or_none s slot = if is_clean s then slot else NONE

-- "for each": that of the first slot, from `slot` on, that holds the key
unfoldable pub slot_from : ℕ → State → CacheKey → ℕ → ℕ
slot_from zero t key slot = NONE
slot_from (suc left) t key slot =
    if leb t.capacity slot then NONE else
    if holds (slot_at t slot) key then clean_or_none (slot_at t slot) slot else
    slot_from left t key (next_of t.index slot)

-- from the head of the key's chain
unfoldable pub slot_for : State → CacheKey → ℕ
slot_for t key = slot_from CHAIN t key (head_of t.index key)

-- ── the call ──
-- the answer, the number of slots visited, and the lent list
pub record Peeking : Type 0 where
  pub answer : Try Fine
  pub visited : ℕ
  pub list : List ℕ

-- "a refusal leaves the list untouched with count 0"
abbrev pub unless_refused : List ℕ → List ℕ → Try ℕ → Peeking
unless_refused list slots (ok n) = record { answer = ok done; visited = n; list = slots }
unless_refused list slots (refuse n) = record { answer = refuse n; visited = 0; list = list }

-- "13 more than 64 keys or a list not as long as the keys, after the first test of 10"; then the walks. The keys are the first `count`; so many places
-- are lent.
unfoldable pub visits_of : State → List CacheKey → ℕ → ℕ → Try ℕ
visits_of t keys count places = do
  need (sound t) STOP
  need (leb count PEEK_BATCH && eqb places count) KEYS
  visit_chains t (take count keys)

-- the whole call
unfoldable pub peek_batch : State → List CacheKey → ℕ → List ℕ → Peeking
peek_batch t keys count list = unless_refused list (map (slot_for t) (take count keys)) (visits_of t keys count (length list))
