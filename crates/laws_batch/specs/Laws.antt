-- SPDX-License-Identifier: Apache-2.0
-- Document 02, request 5, as laws of the rules.
use Rattle.std.specs.Prelude.{ℕ, suc, ◌<◌, ◌≤◌, ◌≡◌, ◌⊎◌, true, false, List, [], ◌∷◌, length, map, take}
use Rattle.std.specs.List.{sum_by}
use Rattle.std.proofs.Math.Option.{Option, none, some}
use Rattle.basics.specs.Try.{ok, refuse}
use Rattle.basics.specs.Refusals.{STOP, KEYS}
use Rattle.basics.specs.Numbers.{NONE}
use Rattle.basics.specs.Answers.{done}
use Rattle.basics.specs.Members.{In}
use Rattle.key.specs.declared.CacheKey.{CacheKey}
use Rattle.index.specs.Chain.{CHAIN, head_of}
use Rattle.state.specs.declared.State.{State}
use Rattle.state.specs.Slots.{slot_at, is_clean}
use Rattle.state.specs.Fresh.{sound}
use Rattle.state.specs.Reads.{peek_clean}
use Rattle.batch.specs.Batch.{PEEK_BATCH, holds, visit_chains, slot_for, peek_batch}
use Rattle.laws_table.specs.Table.{Valid}
use Rattle.laws_batch.specs.Single.{Single, single_peek, visits, onward}

-- the walk whose visits are counted is peek_clean's
abbrev pub SingleIsPeekClean : Type 0
SingleIsPeekClean = (t : State) (key : CacheKey) → (single_peek t key).answer ≡ peek_clean t key

-- and its visits are the slots of that walk: a slot that is found is the last of them; else the walk ends where the chain leaves the table, or after 64 slots
pub record WalkOf (t : State) (slot most : ℕ) (r : Single) : Type 0 where
  pub found : (x : ℕ) → r.answer ≡ ok (some x) → (n : ℕ) × (r.visited ≡ suc n) × (onward t n slot ≡ x)
  pub ended : ((x : ℕ) → r.answer ≡ ok (some x) → ⊥) → (r.visited ≡ most) ⊎ (t.capacity ≤ onward t r.visited slot)

abbrev pub SingleVisits : Type 0
SingleVisits = (t : State) (key : CacheKey) → sound t ≡ true → WalkOf t (head_of t.index key) CHAIN (single_peek t key)

-- a batch of one key that loads in no slot, where it is not refused, visits as many slots as a single peek of it
abbrev pub AloneVisits : Type 0
AloneVisits = (t : State) (key : CacheKey) → ((s : ℕ) → s < t.capacity → holds (slot_at t s) key ≡ true → is_clean (slot_at t s) ≡ true)
    → (keys : List CacheKey) (list : List ℕ) → (peek_batch t (key ∷ keys) 1 list).answer ≡ ok done
    → (peek_batch t (key ∷ keys) 1 list).visited ≡ visits t key

-- "It never exceeds the sum for single peeks, a key given twice included.": of every table, and whatever the keys, their number and the list are
abbrev pub NeverMore : Type 0
NeverMore = (t : State) (keys : List CacheKey) (count : ℕ) (list : List ℕ)
    → (peek_batch t keys count list).visited ≤ sum_by (visits t) (take count keys)

-- "no keys give count 0": on a table past the first test of 10
abbrev pub NoKeys : Type 0
NoKeys = (t : State) (keys : List CacheKey) → sound t ≡ true → peek_batch t keys 0 [] ≡ record { answer = ok done; visited = 0; list = [] }

-- "a refusal leaves the list untouched with count 0"
abbrev pub RefusalLeaves : Type 0
RefusalLeaves = (t : State) (keys : List CacheKey) (count : ℕ) (list : List ℕ) (n : ℕ) → (peek_batch t keys count list).answer ≡ refuse n
    → peek_batch t keys count list ≡ record { answer = refuse n; visited = 0; list = list }

-- "13 more than 64 keys or a list not as long as the keys, after the first test of 10"
abbrev pub TenThenThirteen : Type 0
TenThenThirteen = (t : State) (keys : List CacheKey) (count : ℕ) (list : List ℕ)
    → (sound t ≡ false → (peek_batch t keys count list).answer ≡ refuse STOP)
    × (sound t ≡ true → PEEK_BATCH < count ⊎ (length list ≡ count → ⊥) → (peek_batch t keys count list).answer ≡ refuse KEYS)

-- the same keys, in any order and each given any number of times
pub record SameKeys (keys others : List CacheKey) : Type 0 where
  pub among : (key : CacheKey) → In key keys → In key others
  pub back : (key : CacheKey) → In key others → In key keys

-- they have the same walks, of every table
abbrev pub SameVisits : Type 0
SameVisits = (t : State) (keys others : List CacheKey) → SameKeys keys others → visit_chains t keys ≡ visit_chains t others

-- so the count, and whether the call is refused, does not change where keys change places or are given again; the keys are the first so many of each list
abbrev pub SameCount : Type 0
SameCount = (t : State) (keys others : List CacheKey) (count number : ℕ) (list other : List ℕ) → SameKeys (take count keys) (take number others)
    → count ≤ PEEK_BATCH → number ≤ PEEK_BATCH → length list ≡ count → length other ≡ number
    → ((peek_batch t keys count list).visited ≡ (peek_batch t others number other).visited)
    × ((peek_batch t keys count list).answer ≡ (peek_batch t others number other).answer)

-- what peek_clean found, as the lent list has it: "None is 65535"
abbrev pub number_of : Option ℕ → ℕ
number_of none = NONE
number_of (some slot) = slot

-- what peek_clean answers of a key is the number
abbrev pub PeekIs : State → CacheKey → ℕ → Type 0
PeekIs t key number = (found : Option ℕ) × (peek_clean t key ≡ ok found) × (number_of found ≡ number)

-- what stands in the list after a call that is not refused: for each key, in order, what peek_clean answers
pub record AsPeekClean (t : State) (keys : List CacheKey) (count : ℕ) (lent : List ℕ) : Type 0 where
  pub answer : (peek_batch t keys count lent).answer ≡ ok done
  pub list : (peek_batch t keys count lent).list ≡ map (slot_for t) (take count keys)
  pub single : (key : CacheKey) → PeekIs t key (slot_for t key)

-- on a valid table, where keys and list fit
abbrev pub OnValid : Type 0
OnValid = (t : State) → Valid t → (keys : List CacheKey) (count : ℕ) (list : List ℕ) → count ≤ PEEK_BATCH → length list ≡ count → AsPeekClean t keys count list
