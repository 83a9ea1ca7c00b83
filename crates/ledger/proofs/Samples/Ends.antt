-- SPDX-License-Identifier: Apache-2.0
-- Counts next to their end, at 256 slots. Of any machine of which the claim holds there is a list of calls that meets the premises and after
-- which no key is present and both counts stand at any number below 2^64 − 1: a key is reserved and aborted so often. The number stays a
-- variable, and no table is computed. Assumes nothing.
use Prim.Native.Nat.{ℕ, zero, suc, ◌+◌, ◌-◌, ◌<◌, ◌≤◌}
use native.Mathlib.Numerals.{add-one}
use native.Mathlib.Omega.{arith}
use mathlib.Core.Path.{◌≡◌, refl, sym, ap, ◌∙◌, subst}
use mathlib.Core.Bool.{true, false}
use mathlib.Core.List.{List, [], ◌∷◌, ◌++◌}
use lib.ListN.{replicate}
use Rattle.basics.specs.Try.{Try, ok}
use Rattle.basics.specs.Numbers.{MAX}
use Rattle.basics.specs.Answers.{Fine, done}
use Rattle.basics.specs.Members.{In, here}
use Rattle.basics.proofs.Members.{in_none, in_case}
use Rattle.state.specs.declared.State.{State}
use Rattle.state.specs.declared.LoadToken.{LoadToken}
use Rattle.state.specs.Answers.{Given, reserved}
use Rattle.state.specs.Fresh.{fresh}
use Rattle.ledger.specs.Calls.{Machine, Call, access, abort, Event, accessed, aborted, rules, event, after, run, log}
use Rattle.ledger.specs.Ledger.{Ledger, begin, feed, feeds}
use Rattle.ledger.specs.Expect.{was_given, outstanding, expect_end}
use Rattle.ledger.specs.Claim.{Fair, FairAll, ledger_of, Kept, Demand3}
use Rattle.ledger.specs.Opened.{opened}
use Rattle.ledger.proofs.Keys.Lists.{true_T}
use Rattle.ledger.proofs.Keys.Tokens.{amid, away, among}
use Rattle.ledger.proofs.Demand3.{demand3}
use Rattle.ledger.proofs.Samples.Words.{key, token, held}

-- ── one call more at the end of a list ──
log_more : (m : Machine) (t : State) (cs : List Call) (c : Call) → log m t (cs ++ c ∷ []) ≡ log m t cs ++ event m (run m t cs) c ∷ []
unfolding run log
log_more m t [] c = refl
log_more m t (d ∷ cs) c = ap {B = List Event} (λ es. event m t d ∷ es) (log_more m (after m t d) cs c)

feeds_more : (l : Ledger) (es : List Event) (e : Event) → feeds l (es ++ e ∷ []) ≡ feed (feeds l es) e
unfolding feeds
feeds_more l [] e = refl
feeds_more l (d ∷ es) e = feeds_more (feed l d) es e

fair_more : (l : Ledger) (es : List Event) (e : Event) → FairAll l es → Fair (feeds l es) e → FairAll l (es ++ e ∷ [])
unfolding feeds
fair_more l [] e f g = (g, tt)
fair_more l (d ∷ es) e f g = (f.0, fair_more (feed l d) es e f.1 g)

-- calls that meet the premises, and the ledger after them
pub record Reaches (m : Machine) (l : Ledger) : Type 0 where
  pub calls : List Call
  pub fair : FairAll (begin 256) (log m (fresh 256) calls)
  pub ledger : ledger_of m 256 calls ≡ l

-- the table after them
abbrev pub table_of : {m : Machine} {l : Ledger} → Reaches m l → State
table_of {m} r = run m (fresh 256) r.calls

reach_more : {m : Machine} {l : Ledger} (r : Reaches m l) (c : Call) → Fair l (event m (table_of r) c) → Reaches m (feed l (event m (table_of r) c))
unfolding ledger_of
reach_more {m} {l} r c f =
    let es : List Event = log m (fresh 256) r.calls in
    let e : Event = event m (table_of r) c in
    record {
      calls = r.calls ++ c ∷ [];
      fair = subst (FairAll (begin 256)) (sym (log_more m (fresh 256) r.calls c)) (fair_more (begin 256) es e r.fair (subst (λ (k : Ledger). Fair k e) (sym r.ledger) f));
      ledger = ap (feeds (begin 256)) (log_more m (fresh 256) r.calls c) ∙ feeds_more (begin 256) es e ∙ ap (λ (k : Ledger). feed k e) r.ledger;
    }

-- ── a key reserved and aborted ──
abbrev pins : List ℕ
pins = replicate 256 0

-- no key present, both counts at n
abbrev pub idle : ℕ → List LoadToken → List LoadToken → Ledger
idle n given ended = record { capacity = 256; held = []; uses = n; generations = n; given = given; ended = ended }

-- the token of generation n and use number n
abbrev pub nth : ℕ → ℕ → LoadToken
nth slot n = token slot n 1 n

-- its key is loading
abbrev loads : ℕ → ℕ → List LoadToken → List LoadToken → Ledger
loads slot n given ended = record { capacity = 256; held = held 1 slot false n ∷ []; uses = n; generations = n; given = nth slot n ∷ given; ended = ended }

-- the tokens that ended have generations to n
abbrev Past : ℕ → List LoadToken → Type 0
Past n ended = (k : LoadToken) → In k ended → k.generation ≤ n

fed_access : (n slot : ℕ) (given ended : List LoadToken) (a : Try Given) → a ≡ ok (reserved (nth slot (n + 1))) → feed (idle n given ended) (accessed (key 1) true pins a) ≡ loads slot (n + 1) given ended
unfolding opened
fed_access n slot given ended a e = rw e

fed_abort : (n slot : ℕ) (given ended : List LoadToken) (a : Try Fine) → a ≡ ok done → feed (loads slot n given ended) (aborted (nth slot n) a) ≡ idle n (nth slot n ∷ given) (nth slot n ∷ ended)
unfolding opened
fed_abort n slot given ended a e = rw e

given_last : (n slot : ℕ) (given ended : List LoadToken) → was_given (loads slot n given ended) (nth slot n) ≡ true
unfolding was_given
given_last n slot given ended = elim (among (nth slot n) (nth slot n ∷ given)) [ amid q i ↦ q | away q o ↦ absurd (o here) ]

end_last : (n slot : ℕ) (given ended : List LoadToken) → Past n ended → expect_end (loads slot (n + 1) given ended) (nth slot (n + 1)) ≡ ok done
unfolding expect_end outstanding
end_last n slot given ended p =
    elim (among (nth slot (n + 1)) ended) [
      | amid q i ↦ absurd (omega (arith, p (nth slot (n + 1)) i))
      | away q o ↦ rw (given_last (n + 1) slot given ended, q)
    ]

module _ (m : Machine) (d : Demand3 m) where
  kept : {l : Ledger} (r : Reaches m l) → Kept m (table_of r) l
  kept r = subst (Kept m (table_of r)) r.ledger (d 256 (omega arith) (omega arith) r.calls r.fair)

  -- the next reservation has the next of both numbers, in some slot
  pub next_token_lem : (n : ℕ) (given ended : List LoadToken) → n < MAX → (r : Reaches m (idle n given ended)) → (slot : ℕ) × ((m.access (table_of r) (key 1) true pins).answer ≡ ok (reserved (nth slot (n + 1))))
  unfolding opened
  next_token_lem n given ended h r =
      let (slot, low, vacant, e) = (kept r).next (access (key 1) true pins) (record { token = tt; uses = h; generations = h }) in
      (slot, e)

  -- a list of calls after which no key is present and both counts stand at n
  pub record Idle (n : ℕ) : Type 0 where
    pub given : List LoadToken
    pub ended : List LoadToken
    pub past : Past n ended
    pub reaches : Reaches m (idle n given ended)

  once_more : (n : ℕ) → n + 1 < MAX → Idle n → Idle (n + 1)
  unfolding event
  once_more n h i =
      let (slot, e) = next_token_lem n i.given i.ended (omega arith) i.reaches in
      let k : LoadToken = nth slot (n + 1) in
      let one : Reaches m (loads slot (n + 1) i.given i.ended) =
      subst (Reaches m) (fed_access n slot i.given i.ended _ e) (reach_more i.reaches (access (key 1) true pins) (record { token = tt; uses = omega arith; generations = omega arith })) in
      let f : Fair (loads slot (n + 1) i.given i.ended) (event m (table_of one) (abort k)) =
      record { token = true_T _ (given_last (n + 1) slot i.given i.ended); uses = h; generations = h } in
      let q : (m.abort (table_of one) k).answer ≡ ok done = (kept one).next (abort k) f ∙ end_last n slot i.given i.ended i.past in
      record {
        given = k ∷ i.given;
        ended = k ∷ i.ended;
        past = λ y j. in_case j (λ z. rw z (omega arith)) (λ w. omega (arith, i.past y w));
        reaches = subst (Reaches m) (fed_abort (n + 1) slot i.given i.ended _ q) (reach_more one (abort k) f);
      }

  pub idle_at : (n : ℕ) → n < MAX → Idle n
  unfolding log ledger_of feeds begin
  idle_at zero h = record { given = []; ended = []; past = λ k i. in_none i; reaches = record { calls = []; fair = tt; ledger = refl } }
  idle_at (suc n) h = subst Idle (add-one n) (once_more n (omega arith) (idle_at n (omega arith)))

-- ── one below the end ──
-- a list of calls that meets the premises, both counts one below 2^64 − 1 after it, and the next reservation with that number twice
pub record NextToEnd (m : Machine) : Type 0 where
  pub calls : List Call
  pub fair : FairAll (begin 256) (log m (fresh 256) calls)
  pub uses : (ledger_of m 256 calls).uses + 1 ≡ MAX
  pub generations : (ledger_of m 256 calls).generations + 1 ≡ MAX
  pub slot : ℕ
  pub answer : (m.access (run m (fresh 256) calls) (key 1) true (replicate 256 0)).answer ≡ ok (reserved (token slot MAX 1 MAX))

one_below : (m : Machine) → Demand3 m → (n : ℕ) → n + 1 ≡ MAX → NextToEnd m
one_below m d n e =
    let i = idle_at m d n (omega arith) in
    let r = i.reaches in
    let (slot, q) = next_token_lem m d n i.given i.ended (omega arith) r in
    record {
      calls = r.calls;
      fair = r.fair;
      uses = ap (λ (l : Ledger). l.uses + 1) r.ledger ∙ e;
      generations = ap (λ (l : Ledger). l.generations + 1) r.ledger ∙ e;
      slot = slot;
      answer = q ∙ ap (λ (k : ℕ). ok (reserved (nth slot k))) e;
    }

-- of any machine of which the claim holds
pub next_to_end : (m : Machine) → Demand3 m → NextToEnd m
next_to_end m d = one_below m d (MAX - 1) (omega arith)

-- and so of the rules
pub rules_next_to_end : NextToEnd rules
rules_next_to_end = next_to_end rules demand3
