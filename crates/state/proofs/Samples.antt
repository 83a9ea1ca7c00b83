-- SPDX-License-Identifier: Apache-2.0
-- The length kept for a chain at single made-up tables, computed: where it is compared, and where it is not. Assumes nothing.
use Prim.Native.Nat.{ℕ}
use mathlib.Core.Bool.{true, false}
use mathlib.Core.List.{[], ◌∷◌}
use mathlib.Core.Option.{none, some}
use mathlib.Core.Path.{◌≡◌, refl}
use lib.ListN.{set, replicate}
use Rattle.basics.specs.Try.{ok, refuse}
use Rattle.basics.specs.Refusals.{STOP}
use Rattle.key.specs.declared.CacheKey.{CacheKey}
use Rattle.state.specs.declared.State.{State}
use Rattle.state.specs.Parts.{with_index}
use Rattle.state.specs.Fresh.{fresh}
use Rattle.state.specs.Find.{find_key}
use Rattle.state.specs.Access.{access}
use Rattle.state.specs.Lookup.{lookup}
use Rattle.state.specs.Reads.{peek_clean}
use Rattle.state.specs.Rules.{table_rules}

abbrev key : ℕ → CacheKey
key page = record { file = 0; kind = 0; index = page }

-- the table of one slot and two buckets, with n kept for bucket 1
abbrev kept : ℕ → State → State
kept n t =
    with_index t (record {
      heads = t.index.heads;
      lengths = set (replicate 512 0) 1 n;
      buckets = t.index.buckets;
      next = t.index.next;
      free = t.index.free;
      free_len = t.index.free_len;
    })

-- key 1 loads, in the chain of bucket 1
unfoldable loads : State
unfolding table_rules
loads = (access (fresh 1) (key 1) true (0 ∷ [])).table

-- "A search .. that stops at a slot has not walked to the end": it is found in front of a wrong length
found_in_front : find_key (kept 9 loads) (key 1) ≡ ok (some 0)
unfolding table_rules loads
found_in_front = refl

-- key 3 is of the same bucket: the chain is walked to its end
absent_counted : find_key (kept 1 loads) (key 3) ≡ ok none
unfolding table_rules loads
absent_counted = refl

absent_differs : find_key (kept 2 loads) (key 3) ≡ refuse STOP
unfolding table_rules loads
absent_differs = refl

-- a loading slot is passed by `peek_clean`
peek_counted : peek_clean (kept 1 loads) (key 1) ≡ ok none
unfolding table_rules loads
peek_counted = refl

peek_differs : peek_clean (kept 0 loads) (key 1) ≡ refuse STOP
unfolding table_rules loads
peek_differs = refl

-- an empty chain with length 64 is 10 and not CapacityBusy, loading allowed or not
not_busy : (access (kept 64 (fresh 1)) (key 1) true (0 ∷ [])).answer ≡ refuse STOP
unfolding table_rules
not_busy = refl

not_allowed : (access (kept 64 (fresh 1)) (key 1) false (0 ∷ [])).answer ≡ refuse STOP
unfolding table_rules
not_allowed = refl

lookup_differs : (lookup (kept 64 (fresh 1)) (key 1)).answer ≡ refuse STOP
unfolding table_rules
lookup_differs = refl

-- the length of another bucket is not looked at
of_another : (lookup (kept 64 (fresh 1)) (key 2)).answer ≡ ok none
unfolding table_rules
of_another = refl
