-- SPDX-License-Identifier: Apache-2.0
-- What stands between two records: the table, the token places, the pins, and whether there was a 1 that was not refused.
use Rattle.std.specs.Prelude.{ℕ, true, false, Option, None, Some, List, take, get_or, set, replicate, if◌then◌else◌}
use Rattle.basics.specs.Numbers.{NONE}
use Rattle.state.specs.declared.State.{State}
use Rattle.state.specs.declared.LoadToken.{LoadToken}
use Rattle.state.specs.Fresh.{no_table}
use Rattle.sheet_standing.specs.declared.Standing.{Standing}

-- a token place with nothing in it, and one with a token
abbrev pub empty_place : Option LoadToken
empty_place = None

abbrev pub holding : LoadToken → Option LoadToken
holding k = Some k

-- "token place (0 to 15)"
unfoldable pub empty_places : List (Option LoadToken)
empty_places = replicate 16 empty_place

-- a byte for each slot of the largest table
unfoldable pub no_pins : List ℕ
no_pins = replicate 256 0

-- before the first record
unfoldable pub start : Standing
start = record { state = no_table; places = empty_places; pins = no_pins; stands = false }

-- a new table: "`made` empties all places and pins"
unfoldable pub afresh : State → Standing
afresh t = record { state = t; places = empty_places; pins = no_pins; stands = true }

abbrev pub with_state : Standing → State → Standing
with_state s t = record { state = t; places = s.places; pins = s.pins; stands = s.stands }

abbrev pub with_pins : Standing → List ℕ → Standing
with_pins s pins = record { state = s.state; places = s.places; pins = pins; stands = s.stands }

-- "An access that reserves puts its token in the named place, where it stays until written over"
abbrev pub with_token : Standing → ℕ → LoadToken → Standing
with_token s place k = record { state = s.state; places = set s.places place (holding k); pins = s.pins; stands = s.stands }

abbrev pub place_at : Standing → ℕ → Option LoadToken
place_at s place = get_or s.places place empty_place

-- the pins that are lent: a byte for each slot of the table
unfoldable pub lent_pins : Standing → List ℕ
lent_pins s = take s.state.capacity s.pins

-- the list that resize is lent, "one for each old slot"
unfoldable pub lent_list : Standing → List ℕ
lent_list s = take s.state.capacity (replicate 256 NONE)

-- "clean slots; loading slots", which "print 0 0 if no table stands"
unfoldable pub clean_of : Standing → ℕ
clean_of s = if s.stands then s.state.clean else 0

unfoldable pub loading_of : Standing → ℕ
loading_of s = if s.stands then s.state.loading else 0
