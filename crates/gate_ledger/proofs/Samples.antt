-- SPDX-License-Identifier: Apache-2.0
-- Lists of calls through every state of the gate, computed by the rules: what each call answers, the gate after them, and that they meet the premises
-- of the claim. Assumes nothing.
use Prim.Native.Nat.{ℕ}
use native.Mathlib.Omega.{arith}
use mathlib.Core.Path.{◌≡◌, refl}
use mathlib.Core.Bool.{Bool, true, false, ◌&&◌}
use mathlib.Core.List.{List, [], ◌∷◌}
use Rattle.basics.specs.Try.{ok, refuse}
use Rattle.basics.specs.Answers.{done}
use Rattle.basics.proofs.Tests.{and_left, and_right}
use Rattle.state.specs.Answers.{hit, reserved, evicted, busy}
use Rattle.maintenance_resize.specs.Answers as Size
use Rattle.gate.specs.Gate as gates
use Rattle.ledger.specs.Calls as Plain
use Rattle.ledger.proofs.Samples.Premises.{meets, fair}
use Rattle.ledger.proofs.Samples.Words.{key, token}
use Rattle.gate_ledger.specs.Calls.{begin_pause, end_pause, begin_dirty, end_dirty, Call, call, turn, Event, called, turned, rules, start, run, log}
use Rattle.gate_ledger.specs.Ledger.{Ledger, begin, feed}
use Rattle.gate_ledger.specs.Claim.{FairAll, Kept, ledger_of}
use Rattle.gate_ledger.specs.Opened.{opened}
use Rattle.gate_ledger.proofs.Demand3.{demand3_gated}

-- ── the premises as a test that is computed ──
abbrev meets_one : Ledger → Event → Bool
meets_one l (called e) = meets l.keys e
meets_one l (turned k a) = true

unfoldable pub meets_all : Ledger → List Event → Bool
meets_all l [] = true
meets_all l (e ∷ es) = meets_one l e && meets_all (feed l e) es

pub fair_all : (l : Ledger) (es : List Event) → meets_all l es ≡ true → FairAll l es
unfolding meets_all
fair_all l [] q = tt
fair_all l (called e ∷ es) q =
    let m = meets l.keys e in
    let r = meets_all (feed l (called e)) es in
    (fair l.keys e (and_left m r q), fair_all (feed l (called e)) es (and_right m r q))
fair_all l (turned k a ∷ es) q = (tt, fair_all (feed l (turned k a)) es q)

-- ── every state of the gate, on a table of one slot ──
abbrev pub none : List ℕ
none = 0 ∷ []

abbrev lent : List ℕ
lent = 7 ∷ []

abbrev pub turns : List Call
turns =
    -- paused: no load, and no resize, not even to the same capacity
    turn begin_pause
    ∷ call (Plain.access (key 1) true none)
    ∷ call (Plain.resize 2 none lent)
    ∷ call (Plain.resize 1 none lent)
    ∷ turn end_pause
    ∷ turn end_pause
    -- a load out: resize marks the gate, and no other load begins until the mark is cleared
    ∷ call (Plain.access (key 1) true none)
    ∷ call (Plain.resize 2 none lent)
    ∷ call (Plain.access (key 2) true none)
    ∷ call (Plain.publish (token 0 1 1 1))
    ∷ call (Plain.access (key 1) true none)
    ∷ call (Plain.access (key 2) true none)
    -- a dirty page: resize waits, and the mark stays
    ∷ turn begin_dirty
    ∷ call (Plain.resize 1 none lent)
    ∷ turn end_dirty
    ∷ turn end_dirty
    -- the same capacity clears the mark; a load begins beside a dirty page
    ∷ call (Plain.resize 1 none lent)
    ∷ turn begin_dirty
    ∷ call (Plain.access (key 2) true none)
    ∷ turn end_dirty
    -- marked again; a pin on a slot that is not clean is refused by 8, and the mark stays
    ∷ call (Plain.resize 2 none lent)
    ∷ call (Plain.abort (token 0 2 2 3))
    ∷ call (Plain.resize 2 (1 ∷ []) lent)
    ∷ call (Plain.access (key 2) true none)
    -- an attempt that goes through: the mark is cleared, and one generation is counted
    ∷ call (Plain.resize 2 none lent)
    ∷ call (Plain.access (key 2) true (0 ∷ 0 ∷ []))
    ∷ []

answers :
    log rules (start 1) turns
    ≡ turned begin_pause (ok done)
    ∷ called (Plain.accessed (key 1) true none (ok busy))
    ∷ called (Plain.resized 2 none (ok Size.busy_now) lent)
    ∷ called (Plain.resized 1 none (ok Size.busy_now) lent)
    ∷ turned end_pause (ok done)
    ∷ turned end_pause (refuse 12)
    ∷ called (Plain.accessed (key 1) true none (ok (reserved (token 0 1 1 1))))
    ∷ called (Plain.resized 2 none (ok Size.busy_now) lent)
    ∷ called (Plain.accessed (key 2) true none (ok busy))
    ∷ called (Plain.published (token 0 1 1 1) (ok done))
    ∷ called (Plain.accessed (key 1) true none (ok (hit 0)))
    ∷ called (Plain.accessed (key 2) true none (ok busy))
    ∷ turned begin_dirty (ok done)
    ∷ called (Plain.resized 1 none (ok Size.busy_now) lent)
    ∷ turned end_dirty (ok done)
    ∷ turned end_dirty (refuse 12)
    ∷ called (Plain.resized 1 none (ok Size.unchanged) lent)
    ∷ turned begin_dirty (ok done)
    ∷ called (Plain.accessed (key 2) true none (ok (evicted (token 0 2 2 3))))
    ∷ turned end_dirty (ok done)
    ∷ called (Plain.resized 2 none (ok Size.busy_now) lent)
    ∷ called (Plain.aborted (token 0 2 2 3) (ok done))
    ∷ called (Plain.resized 2 (1 ∷ []) (refuse 8) lent)
    ∷ called (Plain.accessed (key 2) true none (ok busy))
    ∷ called (Plain.resized 2 none (ok (Size.resized 2)) (65535 ∷ []))
    ∷ called (Plain.accessed (key 2) true (0 ∷ 0 ∷ []) (ok (reserved (token 0 3 2 4))))
    ∷ []
unfolding opened
answers = refl

turns_gate : (run rules (start 1) turns).gate ≡ gates.gate_of 0 0 false 1
unfolding opened
turns_gate = refl

turns_kept : Kept rules (run rules (start 1) turns) (ledger_of rules 1 turns)
unfolding opened meets_all
turns_kept = demand3_gated 1 (omega arith) (omega arith) turns (fair_all (begin 1) (log rules (start 1) turns) refl)
