-- SPDX-License-Identifier: Apache-2.0
-- Cases that decide an order, and the ends of the counts, as document 02's words have them: computed by the rules. Assumes nothing.
use Prim.Native.Nat.{ℕ}
use mathlib.Core.Path.{◌≡◌, refl}
use mathlib.Core.Bool.{true, false}
use mathlib.Core.List.{List, [], ◌∷◌}
use Rattle.basics.specs.Try.{ok, refuse}
use Rattle.basics.specs.Numbers.{MAX}
use Rattle.key.specs.declared.CacheKey.{CacheKey}
use Rattle.state.specs.declared.State.{State}
use Rattle.state.specs.Fresh.{fresh}
use Rattle.state.specs.Access.{access}
use Rattle.maintenance_resize.specs.Answers.{unchanged, busy_now}
use Rattle.maintenance_resize.specs.Rules.{resize_rules}
use Rattle.gate.specs.Gate.{gate_of, one_more, one_less, begin_pause, end_pause, begin_dirty, end_dirty, stops}
use Rattle.passage.specs.Resize.{need_input_of, attempted, attempt_rule, pass_steps, stays, resize_through}

-- ── what the cases are written with ──
abbrev key : ℕ → CacheKey
key n = record { file = 0; kind = 0; index = n }

-- a table of one slot, and the same with a load out
abbrev one : State
one = fresh 1

unfoldable loading : State
unfolding resize_rules
loading = (access one (key 1) true (0 ∷ [])).table

-- a capacity off the rule: the first test fails
abbrev unsound : State
unsound = record {
  slots = one.slots;
  capacity = 257;
  index = one.index;
  eviction = one.eviction;
  next_load_generation = 0;
  next_access_sequence = 0;
  counters = one.counters;
  clean = 0;
  loading = 0;
}

unfoldable opened : ℕ
unfolding resize_rules need_input_of attempted attempt_rule pass_steps resize_through one_more one_less begin_pause end_pause begin_dirty end_dirty stops loading
opened = 0

abbrev lent : List ℕ
lent = 7 ∷ []

-- ── "The gate stands after 10's first test and 1 to 5." ──
paused_unsound : resize_through unsound (gate_of 1 0 true 5) 1 (0 ∷ []) lent ≡ stays unsound lent (refuse 10) (gate_of 1 0 true 5)
unfolding opened
paused_unsound = refl

paused_asked_0 : resize_through one (gate_of 1 0 true 5) 0 (0 ∷ []) lent ≡ stays one lent (refuse 1) (gate_of 1 0 true 5)
unfolding opened
paused_asked_0 = refl

paused_asked_257 : resize_through one (gate_of 1 0 true 5) 257 (0 ∷ []) lent ≡ stays one lent (refuse 2) (gate_of 1 0 true 5)
unfolding opened
paused_asked_257 = refl

paused_no_pins : resize_through one (gate_of 1 0 true 5) 2 [] lent ≡ stays one lent (refuse 3) (gate_of 1 0 true 5)
unfolding opened
paused_no_pins = refl

paused_no_list : resize_through one (gate_of 1 0 true 5) 2 (0 ∷ []) [] ≡ stays one [] (refuse 4) (gate_of 1 0 true 5)
unfolding opened
paused_no_list = refl

-- ── "a pause or a dirty page is Busy", before equal capacity ──
paused_equal : resize_through one (gate_of 1 0 true 5) 1 (0 ∷ []) lent ≡ stays one lent (ok busy_now) (gate_of 1 0 true 5)
unfolding opened
paused_equal = refl

dirty_equal : resize_through one (gate_of 0 1 true 5) 1 (0 ∷ []) lent ≡ stays one lent (ok busy_now) (gate_of 0 1 true 5)
unfolding opened
dirty_equal = refl

-- ── "Equal capacity clears the mark", before loads and a spent generation ──
equal_loading : resize_through loading (gate_of 0 0 true 5) 1 (0 ∷ []) lent ≡ stays loading lent (ok unchanged) (gate_of 0 0 false 5)
unfolding opened
equal_loading = refl

equal_spent : resize_through one (gate_of 0 0 true MAX) 1 (0 ∷ []) lent ≡ stays one lent (ok unchanged) (gate_of 0 0 false MAX)
unfolding opened
equal_spent = refl

-- ── "a table with loads sets it and is Busy", before a spent generation ──
loading_spent : resize_through loading (gate_of 0 0 false MAX) 2 (0 ∷ []) lent ≡ stays loading lent (ok busy_now) (gate_of 0 0 true MAX)
unfolding opened
loading_spent = refl

-- ── "with the generation spent the answer is 7 and the mark is cleared", before 8 ──
spent_unclean : resize_through one (gate_of 0 0 true MAX) 2 (1 ∷ []) lent ≡ stays one lent (refuse 7) (gate_of 0 0 false MAX)
unfolding opened
spent_unclean = refl

-- ── "undone if 8 or 10 refuses it later": the mark too ──
marked_unclean : resize_through one (gate_of 0 0 true 5) 2 (1 ∷ []) lent ≡ stays one lent (refuse 8) (gate_of 0 0 true 5)
unfolding opened
marked_unclean = refl

-- ── the counts at their ends ──
begin_full : begin_pause (gate_of MAX 0 true 5) ≡ refuse 11
unfolding opened
begin_full = refl

begin_last : begin_pause (gate_of 18446744073709551614 3 true 5) ≡ ok (gate_of MAX 3 true 5)
unfolding opened
begin_last = refl

end_empty : end_pause (gate_of 0 3 true 5) ≡ refuse 12
unfolding opened
end_empty = refl

end_one : end_pause (gate_of 1 3 true 5) ≡ ok (gate_of 0 3 true 5)
unfolding opened
end_one = refl

dirty_full : begin_dirty (gate_of 3 MAX true 5) ≡ refuse 11
unfolding opened
dirty_full = refl

-- while paused and pending
dirty_last : begin_dirty (gate_of 3 18446744073709551614 true 5) ≡ ok (gate_of 3 MAX true 5)
unfolding opened
dirty_last = refl

dirty_empty : end_dirty (gate_of 3 0 true 5) ≡ refuse 12
unfolding opened
dirty_empty = refl

dirty_one : end_dirty (gate_of 3 1 true 5) ≡ ok (gate_of 3 0 true 5)
unfolding opened
dirty_one = refl
