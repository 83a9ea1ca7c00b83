-- SPDX-License-Identifier: Apache-2.0
-- What the ledger gives, without chains, stack or heap.
use Rattle.std.specs.Prelude.{ℕ, Bool, not, ◌&&◌, ◌||◌, List, [], ◌∷◌, ltb, leb, eqb, length, get_or, if◌then◌else◌}
use Rattle.std.proofs.Math.Option.{Option, none, some}
use Rattle.basics.specs.Try.{Try, ok, refuse}
use Rattle.basics.specs.Refusals.{PINS, STALE}
use Rattle.basics.specs.Lists.{keep, every, some?, first}
use Rattle.basics.specs.Answers.{Fine, done}
use Rattle.key.specs.declared.CacheKey.{CacheKey}
use Rattle.key.specs.Key.{same_key}
use Rattle.key.specs.Bucket.{bucket_of, bucket_count}
use Rattle.state.specs.declared.LoadToken.{LoadToken}
use Rattle.state.specs.Answers.{Given, hit, in_progress, busy}
use Rattle.ledger.specs.Ledger.{Ledger, Held}

-- "64 present keys share its bucket"
abbrev pub SHARE : ℕ
SHARE = 64

-- "64 or more clean keys pinned"
abbrev pub PINNED : ℕ
PINNED = 64

-- the pin byte of the key's slot is 0
abbrev pub unpinned : List ℕ → Held → Bool
unpinned pins h = eqb (get_or pins h.slot 0) 0

-- the clean keys
unfoldable pub clean_ones : Ledger → List Held
clean_ones l = keep (λ h. h.clean) l.held

-- "the clean key of smallest last use"
unfoldable pub older_of : Held → Option Held → Held
older_of h none = h
older_of h (some o) = if ltb h.last o.last then h else o

-- of all these keys, where there is one
unfoldable pub oldest : List Held → Option Held
oldest [] = none
oldest (h ∷ hs) = some (older_of h (oldest hs))

-- present keys that share the key's bucket
unfoldable pub sharing : Ledger → CacheKey → ℕ
sharing l key = length (keep (λ h. eqb (bucket_of h.key (bucket_count l.capacity)) (bucket_of key (bucket_count l.capacity))) l.held)

-- what access gives: one answer; a vacant slot; this clean key's slot; or some unpinned clean key's, and whether CapacityBusy may come instead.
-- "Left open are that vacant slot, that unpinned key and that CapacityBusy."
pub data Expect : Type 0 where
  exactly : Try Given → Expect
  vacancy : Expect
  goes : Held → Expect
  one_goes : Bool → Expect

-- "with no unpinned clean key, CapacityBusy; else the clean key of smallest last use goes if unpinned; if it is pinned, some unpinned clean key
-- goes, or, only with 64 or more clean keys pinned, CapacityBusy may come instead"
unfoldable pub expect_victim : Ledger → List ℕ → Option Held → Expect
expect_victim l pins none = exactly (ok busy)
expect_victim l pins (some h) =
    if not (some? (unpinned pins) (clean_ones l)) then exactly (ok busy) else
    if unpinned pins h then goes h else
    one_goes (leb PINNED (length (keep (λ o. not (unpinned pins o)) (clean_ones l))))

-- "Hit with the key's slot if clean, LoadInProgress if loading. Absent: CapacityBusy if loading is not allowed or 64 present keys share its
-- bucket; else reserved without eviction .. if fewer keys than capacity are present"
unfoldable pub expect_key : Ledger → CacheKey → Bool → List ℕ → Option Held → Expect
expect_key l key allow pins (some h) = if h.clean then exactly (ok (hit h.slot)) else exactly (ok in_progress)
expect_key l key allow pins none =
    if not allow || leb SHARE (sharing l key) then exactly (ok busy) else
    if ltb (length l.held) l.capacity then vacancy else
    expect_victim l pins (oldest (clean_ones l))

-- "Access with pin bytes not as many as slots gives 3; else it reads"
unfoldable pub expect : Ledger → CacheKey → Bool → List ℕ → Expect
expect l key allow pins =
    if not (eqb (length pins) l.capacity) then exactly (refuse PINS) else
    expect_key l key allow pins (first (λ h. same_key h.key key) l.held)

-- the same token, all of its four parts
unfoldable pub same_token : LoadToken → LoadToken → Bool
same_token a b =
    eqb a.slot b.slot && eqb a.generation b.generation && same_key a.key b.key && eqb a.access_sequence b.access_sequence

-- the token was given out in the list
unfoldable pub was_given : Ledger → LoadToken → Bool
was_given l k = some? (same_token k) l.given

-- "outstanding (not yet published or aborted)"
unfoldable pub outstanding : Ledger → LoadToken → Bool
outstanding l k = was_given l k && not (some? (same_token k) l.ended)

-- "Publish and abort succeed when the token's reservation is outstanding .., and otherwise give 6."
unfoldable pub expect_end : Ledger → LoadToken → Try Fine
expect_end l k = if outstanding l k then ok done else refuse STALE

-- the same key with the same last use
unfoldable pub same_use : Held → Held → Bool
same_use h g = same_key h.key g.key && eqb h.last g.last

-- a key that the ledger has, with its last use
unfoldable pub present : Ledger → Held → Bool
present l h = some? (same_use h) l.held

-- "Over a resize pinned keys stay, last uses stay, no key appears, and growing loses none.": the ledger before it and after it
unfoldable pub resize_keeps : List ℕ → Ledger → Ledger → Bool
resize_keeps pins old new =
    every (λ h. unpinned pins h || present new h) old.held && every (present old) new.held
    && (not (ltb old.capacity new.capacity) || every (present new) old.held)
