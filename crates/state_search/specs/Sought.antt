-- SPDX-License-Identifier: Apache-2.0
-- What the enum `Seen` says, in the words of the rule; and a walk along a chain by any test, of which find and peek_clean are two.
use Rattle.std.specs.Prelude.{◌≡◌, ℕ, zero, suc, Bool, not, leb, eqb, Result, if◌then◌else◌}
use Rattle.std.proofs.Math.Option.{Option, some}
use Rattle.basics.specs.declared.Refusal.{Refusal}
use Rattle.basics.specs.Try.{Try, ok, refuse, ◌>>=◌, ◌>>◌, need}
use Rattle.basics.specs.Refusals.{STOP}
use Rattle.basics.specs.Numbers.{NONE}
use Rattle.basics.specs.Answers.{answer}
use Rattle.key.specs.declared.CacheKey.{CacheKey}
use Rattle.key.specs.Key.{same_key}
use Rattle.index.specs.Chain.{CHAIN, head_of, next_of, length_of}
use Rattle.state.specs.declared.Slot.{Slot}
use Rattle.state.specs.declared.State.{State}
use Rattle.state.specs.Fresh.{sound}
use Rattle.state.specs.Slots.{slot_at, occupied, clean_with}
use Rattle.state.specs.Find.{Seen as SeenRule, found, waits, absent, ended}
use Rattle.state_search.specs.declared.Seen.{Seen}

abbrev pub seen_of : Seen → SeenRule
seen_of (Seen.Hit slot) = found slot
seen_of Seen.Loading = waits
seen_of Seen.Absent = absent

-- a test that answers each slot as the rule does
abbrev pub Follows : (Slot → Result Bool Refusal → Type 0) → (Slot → Try Bool) → Type 0
Follows post rule = (s : Slot) (r : Result Bool Refusal) → post s r → answer r ≡ rule s

-- the slot of the key's chain, from `slot` on, at which the test is true
unfoldable pub walk_from : (Slot → Try Bool) → ℕ → State → CacheKey → ℕ → Try (Option ℕ)
walk_from rule zero t key slot = if eqb slot NONE then ended (length_of t.index key) 0 else refuse STOP
walk_from rule (suc left) t key slot =
    if eqb slot NONE then ended (length_of t.index key) (suc left) else
    if leb t.capacity slot then refuse STOP else do
      here ← rule (slot_at t slot)
      if here then ok (some slot) else walk_from rule left t key (next_of t.index slot)

-- the same from the head of the key's chain, after the first test
unfoldable pub walk_key : (Slot → Try Bool) → State → CacheKey → Try (Option ℕ)
walk_key rule t key = do
  need (sound t) STOP
  walk_from rule CHAIN t key (head_of t.index key)

-- the test of `find_key`: a vacant slot stops it
unfoldable pub find_test : CacheKey → Slot → Try Bool
find_test key s = if not (occupied s) then refuse STOP else ok (same_key s.key key)

-- the test of `peek_clean`
unfoldable pub peek_test : CacheKey → Slot → Try Bool
peek_test key s = ok (clean_with s key)
