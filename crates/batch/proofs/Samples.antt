-- SPDX-License-Identifier: Apache-2.0
-- A chain of three keys, computed: what a batch visits and lists. Assumes nothing.
use Prim.Native.Nat.{ℕ, ◌+◌}
use mathlib.Core.Path.{◌≡◌, refl}
use mathlib.Core.Bool.{true}
use mathlib.Core.List.{List, [], ◌∷◌}
use lib.ListN.{set, replicate}
use Rattle.basics.specs.Try.{ok, refuse}
use Rattle.basics.specs.Refusals.{STOP, KEYS}
use Rattle.basics.specs.Answers.{done}
use Rattle.basics.specs.Numbers.{NONE}
use Rattle.key.specs.declared.CacheKey.{CacheKey}
use Rattle.state.specs.declared.State.{State}
use Rattle.state.specs.Slots.{vacant_slot, clean_slot}
use Rattle.state.specs.Parts.{with_slot, with_index}
use Rattle.state.specs.Fresh.{fresh, no_table}
use Rattle.state.specs.Access.{access}
use Rattle.state.specs.Tokens.{publish}
use Rattle.state.specs.Rules.{table_rules}
use Rattle.batch.specs.Batch.{Peeking, peek_batch}
use Rattle.batch.specs.Rules.{batch_rules}

-- among eight buckets pages 1, 9 and 17 are of bucket 1
abbrev pub key : ℕ → CacheKey
key page = record { file = 0; kind = 0; index = page }

abbrev loads : State → ℕ → State
loads t page = (access t (key page) true (0 ∷ 0 ∷ 0 ∷ [])).table

-- the page that was asked for first is in slot 0, and so on
abbrev loaded : State → ℕ → ℕ → State
loaded t page slot = (publish t (record { slot = slot; generation = slot + 1; key = key page; access_sequence = slot + 1 })).table

-- the chain: page 17 clean in slot 2, page 9 loading in slot 1, page 1 clean in slot 0
unfoldable pub chain : State
unfolding table_rules
chain = loaded (loads (loads (loaded (loads (fresh 3) 1) 1 0) 9) 17) 17 2

abbrev told : ℕ → List ℕ → Peeking
told visited list = record { answer = ok done; visited = visited; list = list }

abbrev refused : ℕ → List ℕ → Peeking
refused n list = record { answer = refuse n; visited = 0; list = list }

-- ── the slots visited ──
-- a loading page is found, and its slot is none
loading_found : peek_batch chain (key 9 ∷ []) 1 (7 ∷ []) ≡ told 2 (NONE ∷ [])
unfolding batch_rules chain
loading_found = refl

-- the slots in the order of the keys
all_three : peek_batch chain (key 1 ∷ key 9 ∷ key 17 ∷ []) 3 (7 ∷ 7 ∷ 7 ∷ []) ≡ told 3 (0 ∷ NONE ∷ 2 ∷ [])
unfolding batch_rules chain
all_three = refl

-- "a key given twice included"
given_twice : peek_batch chain (key 17 ∷ key 17 ∷ []) 2 (7 ∷ 7 ∷ []) ≡ told 1 (2 ∷ 2 ∷ [])
unfolding batch_rules chain
given_twice = refl

-- page 25 is in no slot, so its chain is walked to the end; the chain of page 2 is empty
absent_two : peek_batch chain (key 25 ∷ key 2 ∷ []) 2 (7 ∷ 7 ∷ []) ≡ told 3 (NONE ∷ NONE ∷ [])
unfolding batch_rules chain
absent_two = refl

-- "no keys give count 0"
none_asked : peek_batch chain (key 1 ∷ []) 0 [] ≡ told 0 []
unfolding batch_rules chain
none_asked = refl

-- ── refusals ──
list_too_long : peek_batch chain (key 1 ∷ []) 1 (7 ∷ 7 ∷ []) ≡ refused KEYS (7 ∷ 7 ∷ [])
unfolding batch_rules chain
list_too_long = refl

keys_65 : peek_batch chain [] 65 (replicate 65 7) ≡ refused KEYS (replicate 65 7)
unfolding batch_rules chain
keys_65 = refl

-- 10's first test comes first
unsound_first : peek_batch no_table [] 65 [] ≡ refused STOP []
unfolding batch_rules chain
unsound_first = refl

-- a kept length that is wrong is met only by a key that is not found before the end
abbrev pub kept_9 : State
kept_9 =
    with_index chain (record {
      heads = chain.index.heads;
      lengths = set (replicate 512 0) 1 9;
      buckets = chain.index.buckets;
      next = chain.index.next;
      free = chain.index.free;
      free_len = chain.index.free_len;
    })

length_not_met : peek_batch kept_9 (key 9 ∷ key 1 ∷ []) 2 (7 ∷ 7 ∷ []) ≡ told 3 (NONE ∷ 0 ∷ [])
unfolding batch_rules chain
length_not_met = refl

length_met : peek_batch kept_9 (key 9 ∷ key 25 ∷ []) 2 (7 ∷ 7 ∷ []) ≡ refused STOP (7 ∷ 7 ∷ [])
unfolding batch_rules chain
length_met = refl

-- ── chains that no list of calls leaves ──
-- page 17's slot vacant: it is passed, and visited
abbrev vacant : State
vacant = with_slot chain 2 vacant_slot

vacant_passed : peek_batch vacant (key 1 ∷ []) 1 (7 ∷ []) ≡ told 3 (0 ∷ [])
unfolding batch_rules chain
vacant_passed = refl

-- page 9 clean in slot 0 too, behind the slot in which it loads: the first decides, be the walk longer for another page or not
abbrev twice : State
twice = with_slot chain 0 (clean_slot (key 9) 1)

first_decides : peek_batch twice (key 9 ∷ []) 1 (7 ∷ []) ≡ told 2 (NONE ∷ [])
unfolding batch_rules chain
first_decides = refl

first_decides_further : peek_batch twice (key 25 ∷ key 9 ∷ []) 2 (7 ∷ 7 ∷ []) ≡ told 3 (NONE ∷ NONE ∷ [])
unfolding batch_rules chain
first_decides_further = refl

-- slot 0 leads back to slot 2, or to slot 300: met where page 25 is sought, and not behind the last page sought
abbrev leading : ℕ → State
leading slot =
    with_index chain (record {
      heads = chain.index.heads;
      lengths = chain.index.lengths;
      buckets = chain.index.buckets;
      next = set chain.index.next 0 slot;
      free = chain.index.free;
      free_len = chain.index.free_len;
    })

cycle_met : peek_batch (leading 2) (key 25 ∷ []) 1 (7 ∷ []) ≡ refused STOP (7 ∷ [])
unfolding batch_rules chain
cycle_met = refl

cycle_not_met : peek_batch (leading 2) (key 1 ∷ []) 1 (7 ∷ []) ≡ told 3 (0 ∷ [])
unfolding batch_rules chain
cycle_not_met = refl

astray_met : peek_batch (leading 300) (key 25 ∷ []) 1 (7 ∷ []) ≡ refused STOP (7 ∷ [])
unfolding batch_rules chain
astray_met = refl

astray_not_met : peek_batch (leading 300) (key 1 ∷ []) 1 (7 ∷ []) ≡ told 3 (0 ∷ [])
unfolding batch_rules chain
astray_not_met = refl
