-- SPDX-License-Identifier: Apache-2.0
-- What some resizes will cost, computed: answer, capacity, drops, restores. Assumes nothing.
use Prim.Native.Nat.{ℕ, ◌+◌}
use mathlib.Core.Path.{◌≡◌, refl}
use mathlib.Core.Bool.{true}
use mathlib.Core.List.{List, [], ◌∷◌}
use lib.ListN.{replicate}
use Rattle.basics.specs.Try.{ok, refuse}
use Rattle.basics.specs.Refusals.{STOP}
use Rattle.key.specs.declared.CacheKey.{CacheKey}
use Rattle.state.specs.declared.State.{State}
use Rattle.state.specs.Slots.{clean_slot}
use Rattle.state.specs.Parts.{with_slot, with_held}
use Rattle.state.specs.Fresh.{fresh}
use Rattle.state.specs.Access.{access}
use Rattle.state.specs.Tokens.{publish}
use Rattle.maintenance_resize.specs.Answers.{unchanged, busy_now, resized}
use Rattle.maintenance_resize.specs.Rules.{cost_rules}
use Rattle.maintenance_resize.specs.Cost.{restores_of, costs_of, cost}

-- ── tables ──
abbrev key : ℕ → CacheKey
key page = record { file = 0; kind = 0; index = page }

-- a page asked for, and then loaded into the slot that it was given
abbrev asked_for : State → ℕ → State
asked_for t page = (access t (key page) true (replicate t.capacity 0)).table

abbrev loaded : State → ℕ → ℕ → State
loaded t page slot = (publish (asked_for t page) (record { slot = slot; generation = slot + 1; key = key page; access_sequence = slot + 1 })).table

-- A and B in two slots; A, B and C in four
unfoldable two : State
unfolding cost_rules
two = loaded (loaded (fresh 2) 1 0) 2 1

unfoldable three : State
unfolding cost_rules
three = loaded (loaded (loaded (fresh 4) 1 0) 2 1) 3 2

abbrev none : List ℕ
none = 0 ∷ 0 ∷ 0 ∷ 0 ∷ []

-- ── tables that calls can leave ──
-- the oldest goes, two are restored
to_2 : cost three 2 none ≡ costs_of (ok (resized 2)) 2 1 2
unfolding cost_rules three
to_2 = refl

to_8 : cost three 8 none ≡ costs_of (ok (resized 8)) 8 0 3
unfolding cost_rules three
to_8 = refl

-- two pins raise 1 to 2
raised_to_2 : cost three 1 (1 ∷ 1 ∷ 0 ∷ 0 ∷ []) ≡ costs_of (ok (resized 2)) 2 1 2
unfolding cost_rules three
raised_to_2 = refl

to_4 : cost three 4 none ≡ costs_of (ok unchanged) 4 0 0
unfolding cost_rules three
to_4 = refl

-- three pins raise 1 to 4
raised_to_4 : cost three 1 (1 ∷ 1 ∷ 1 ∷ 0 ∷ []) ≡ costs_of (ok unchanged) 4 0 0
unfolding cost_rules three
raised_to_4 = refl

-- a load, and a pin on a slot that is not clean: Busy comes before 8
loading : cost (asked_for three 4) 2 (0 ∷ 0 ∷ 0 ∷ 1 ∷ []) ≡ costs_of (ok busy_now) 4 0 0
unfolding cost_rules three
loading = refl

emptied : cost (fresh 4) 2 none ≡ costs_of (ok (resized 2)) 2 0 0
unfolding cost_rules
emptied = refl

-- an empty table that grows
grown_empty : cost (fresh 2) 4 (0 ∷ 0 ∷ []) ≡ costs_of (ok (resized 4)) 4 0 0
unfolding cost_rules
grown_empty = refl

-- a pin on a vacant slot
unclean : cost three 2 (0 ∷ 0 ∷ 0 ∷ 1 ∷ []) ≡ costs_of (refuse 8) 0 0 0
unfolding cost_rules three
unclean = refl

-- no list is lent, so there is no 4: 1 and 2, each with 3 behind it, and 3
asked_0 : cost three 0 [] ≡ costs_of (refuse 1) 0 0 0
unfolding cost_rules three
asked_0 = refl

asked_257 : cost three 257 [] ≡ costs_of (refuse 2) 0 0 0
unfolding cost_rules three
asked_257 = refl

no_pins : cost three 2 [] ≡ costs_of (refuse 3) 0 0 0
unfolding cost_rules three
no_pins = refl

-- ── made-up tables ──
-- two clean slots and clean count 0: an emptied table, whose clean slots are drops
uncounted : cost (with_held two 0 0) 1 (0 ∷ 0 ∷ []) ≡ costs_of (ok (resized 1)) 1 2 0
unfolding cost_rules two
uncounted = refl

-- two clean slots and clean count 1: B finds no vacant slot, and is tried and dropped
no_vacancy : cost (with_held two 1 0) 1 (0 ∷ 0 ∷ []) ≡ costs_of (ok (resized 1)) 1 1 2
unfolding cost_rules two
no_vacancy = refl

-- three clean slots and clean count 1: 10 when C is removed, behind three restores that the refusal does not show
miscounted : cost (with_held three 1 0) 1 none ≡ costs_of (refuse STOP) 0 0 0
unfolding cost_rules three
miscounted = refl

miscounted_tried : restores_of (with_held three 1 0) 1 none ≡ 3
unfolding cost_rules three
miscounted_tried = refl

-- A in both slots, which are of its chain
unfoldable doubled : State
unfolding cost_rules
doubled = with_slot (loaded (loaded (fresh 2) 1 0) 5 1) 1 (clean_slot (key 1) 2)

-- one of them pinned: the new table has the other's key by then, so it is not tried, and both places of the list get the one slot
one_pinned : cost doubled 4 (0 ∷ 1 ∷ []) ≡ costs_of (ok (resized 4)) 4 0 1
unfolding cost_rules doubled
one_pinned = refl

-- "pinned keys are restored", each of them
both_pinned : cost doubled 4 (1 ∷ 1 ∷ []) ≡ costs_of (ok (resized 4)) 4 0 2
unfolding cost_rules doubled
both_pinned = refl

-- no pin: the second is not tried
not_pinned : cost doubled 4 (0 ∷ 0 ∷ []) ≡ costs_of (ok (resized 4)) 4 0 1
unfolding cost_rules doubled
not_pinned = refl

-- A in slots 0 and 1 of four, and C: A's two slots are two drops
both_dropped : cost (with_slot (loaded (loaded (loaded (fresh 4) 1 0) 9 1) 3 2) 1 (clean_slot (key 1) 2)) 1 none ≡ costs_of (ok (resized 1)) 1 2 1
unfolding cost_rules
both_dropped = refl
