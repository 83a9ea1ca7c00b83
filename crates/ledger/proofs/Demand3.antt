-- SPDX-License-Identifier: Apache-2.0
-- Demand 3, of the rules: every call answers as the ledger allows and keeps table and ledger in agreement, so it holds after every list of
-- calls. Assumes nothing.
use native.Mathlib.Omega.{arith}
use mathlib.Core.Path.{◌≡◌, ◌∙◌}
use mathlib.Core.Bool.{not, ◌&&◌}
use mathlib.Core.List.{List, [], ◌∷◌}
use lib.Dec.{T}
use borrow.Author.Tests.{not-true}
use Rattle.basics.specs.Try.{ok, refuse}
use Rattle.basics.specs.Refusals.{STALE}
use Rattle.basics.specs.Lists.{some?}
use Rattle.basics.specs.Answers.{done}
use Rattle.basics.proofs.Tests.{and_left}
use Rattle.state.specs.declared.State.{State}
use Rattle.state.specs.declared.LoadToken.{LoadToken}
use Rattle.state.specs.Fresh.{fresh}
use Rattle.ledger.specs.Calls.{Call, access, publish, abort, lookup, remove, detach, resize, reclaim, rules, event, after, run, log}
use Rattle.ledger.specs.Ledger.{Ledger, begin, feed, feeds}
use Rattle.ledger.specs.Expect.{same_token, was_given, outstanding, expect_end}
use Rattle.ledger.specs.Claim.{Allowed, Fair, FairAll, ledger_of, Kept, Demand3}
use Rattle.ledger.proofs.Keys.Lists.{true_T, T_true}
use Rattle.ledger.proofs.Relation.Agree.{Agree, agree_fresh}
use Rattle.ledger.proofs.Relation.Holds.{agree_holds}
use Rattle.ledger.proofs.Calls.Tokens.{publish_agrees, abort_agrees}
use Rattle.ledger.proofs.Calls.Lookup.{lookup_agrees}
use Rattle.ledger.proofs.Calls.Remove.{remove_agrees, detach_agrees}
use Rattle.ledger.proofs.Calls.Access.{access_good, oldest_goes}
use Rattle.ledger.proofs.Calls.Reclaim.{reclaim_agrees}
use Rattle.ledger.proofs.Calls.Resize.{resize_agrees}

-- ── one call ──
-- an answer that the ledger allows, and agreement after it
pub call_agrees : (t : State) (l : Ledger) → Agree t l → (c : Call) → Fair l (event rules t c) → Allowed l (event rules t c) × Agree (after rules t c) (feed l (event rules t c))
unfolding event after feed
call_agrees t l a (access key allow pins) f = let g = access_good t l a key allow pins (omega arith) (omega arith) in (g.gives, g.agrees)
call_agrees t l a (publish k) f = publish_agrees t l a k f.token
call_agrees t l a (abort k) f = abort_agrees t l a k f.token
call_agrees t l a (lookup key) f = (tt, lookup_agrees t l a key (omega arith))
call_agrees t l a (remove slot) f = (tt, remove_agrees t l a slot)
call_agrees t l a (detach slot) f = (tt, detach_agrees t l a slot)
call_agrees t l a (resize asked pins list) f = let w = resize_agrees t l a pins asked list in (w.keeps, w.agrees)
call_agrees t l a (reclaim limit pins) f = (tt, reclaim_agrees t l a limit pins)

-- ── a list of calls ──
run_agrees : (t : State) (l : Ledger) → Agree t l → (cs : List Call) → FairAll l (log rules t cs) → Agree (run rules t cs) (feeds l (log rules t cs))
unfolding run log feeds
run_agrees t l a [] f = a
run_agrees t l a (c ∷ cs) f = run_agrees (after rules t c) (feed l (event rules t c)) (call_agrees t l a c f.0).1 cs f.1

-- ── what the claim asks after it ──
module _ (t : State) (l : Ledger) (a : Agree t l) where
  -- a token is good exactly until it is published or aborted
  given_of : (k : LoadToken) → T (outstanding l k) → T (was_given l k)
  unfolding outstanding
  given_of k o = true_T (was_given l k) (and_left (was_given l k) (not (some? (same_token k) l.ended)) (T_true (was_given l k && not (some? (same_token k) l.ended)) o))

  end_good : (k : LoadToken) → T (outstanding l k) → expect_end l k ≡ ok done
  unfolding expect_end
  end_good k o = rw (T_true (outstanding l k) o)

  end_stale : (k : LoadToken) → T (not (outstanding l k)) → expect_end l k ≡ refuse STALE
  unfolding expect_end
  end_stale k o = rw (not-true (outstanding l k) (T_true (not (outstanding l k)) o))

  pub agree_kept : Kept rules t l
  agree_kept =
      record {
        holds = agree_holds t l a;
        next = λ c f. (call_agrees t l a c f).0;
        oldest_goes = λ key allow pins k h e q u. oldest_goes t l a key allow pins k h e q u;
        good = λ k o. ((publish_agrees t l a k (given_of k o)).0 ∙ end_good k o, (abort_agrees t l a k (given_of k o)).0 ∙ end_good k o);
        spent = λ k g o. ((publish_agrees t l a k g).0 ∙ end_stale k o, (abort_agrees t l a k g).0 ∙ end_stale k o);
      }

pub demand3 : Demand3 rules
unfolding ledger_of
demand3 c hp hs calls f = agree_kept (run rules (fresh c) calls) (feeds (begin c) (log rules (fresh c) calls)) (run_agrees (fresh c) (begin c) (agree_fresh c hp (omega arith)) calls f)
