-- SPDX-License-Identifier: Apache-2.0
-- Document 02, request 6: "how many restores it will try, failed attempts included": the restores of pinned keys. One restore is one call of
-- `restore_clean`, whether the table takes the key or not. These rules count along those of Restore.antt and change nothing in them.
use Rattle.std.specs.Prelude.{ℕ, zero, suc, ◌+◌, ◌*◌, ◌/◌, Bool, ◌&&◌, List, ltb, if◌then◌else◌}
use Rattle.std.proofs.Math.Option.{Option, none, some}
use Rattle.basics.specs.Try.{Try, ok, refuse}
use Rattle.state.specs.declared.State.{State}
use Rattle.state.specs.Slots.{slot_at}
use Rattle.state.specs.Fresh.{fresh}
use Rattle.eviction.specs.Victim.{unpinned}
use Rattle.maintenance_restore.specs.Restore.{restore, restore_pinned}

-- 9 attempts of 256 keys: no more are counted at any time before the rest is restored
abbrev pub TRIES : ℕ
TRIES = 2304

-- so many after a step that was not refused
abbrev pub tries_on : {A : Type 0} → Try A → (A → ℕ) → ℕ
tries_on (ok a) f = f a
tries_on (refuse n) f = 0

-- so many where there is a table
abbrev pub tries_if : Option State → (State → ℕ) → ℕ
tries_if none f = 0
tries_if (some t) f = f t

-- one attempt: the pinned keys of the old slots left, from `slot` on, up to and with the one refused
unfoldable pub tries_pinned : ℕ → State → List ℕ → ℕ → State → ℕ
tries_pinned zero old pins slot t = 0
tries_pinned (suc left) old pins slot t =
    if unpinned pins slot then tries_pinned left old pins (slot + 1) t else
    1 + tries_on (restore t (slot_at old slot).key (slot_at old slot).last_access) (λ u. tries_if u (λ v. tries_pinned left old pins (slot + 1) v))

-- so many after an attempt in which a key was refused
abbrev pub tries_again : Try (Option State) → ℕ → ℕ
tries_again (ok none) n = n
tries_again (ok (some t)) n = 0
tries_again (refuse m) n = 0

-- "failed attempts included": each attempt of `candidate`
unfoldable pub tries_candidate : ℕ → State → List ℕ → Bool → ℕ → ℕ
tries_candidate zero old pins shrinking c = 0
tries_candidate (suc left) old pins shrinking c =
    tries_pinned old.capacity old pins 0 (fresh c)
    + tries_again (restore_pinned old.capacity old pins 0 (fresh c))
    (if shrinking && ltb c (old.capacity / 2) then tries_candidate left old pins shrinking (c * 2) else 0)
