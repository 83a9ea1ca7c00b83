-- SPDX-License-Identifier: Apache-2.0
-- Publish and abort of a token given out: they succeed while it is outstanding and otherwise give 6, and table and ledger agree after.
-- Assumes nothing.
use native.Mathlib.Omega.{arith}
use mathlib.Core.Path.{◌≡◌, refl, sym, ◌∙◌, subst}
use mathlib.Core.Bool.{true, false, false≢true}
use lib.Dec.{T}
use Rattle.basics.specs.Try.{refuse}
use Rattle.basics.specs.Refusals.{STALE}
use Rattle.basics.specs.Members.{In}
use Rattle.basics.proofs.Tests.{yes!, no!, is}
use Rattle.state.specs.declared.State.{State}
use Rattle.state.specs.declared.LoadToken.{LoadToken}
use Rattle.state.specs.Slots.{slot_at}
use Rattle.state.specs.Tokens as rules
use Rattle.laws_table.proofs.SlotKinds.{loading_occupied, loading_not_clean}
use Rattle.laws_table.proofs.TableParts.{sound_inv}
use Rattle.laws_table.proofs.StepTokens.{outstanding_loads, loads_outstanding, publish_step, abort_step}
use Rattle.ledger.specs.Ledger.{Ledger, feed_publish, feed_abort}
use Rattle.ledger.specs.Expect.{was_given, outstanding, expect_end}
use Rattle.ledger.proofs.Keys.Tokens.{amid, away, among}
use Rattle.ledger.proofs.Relation.Agree.{Agree, as_clean, as_loading, held_in}
use Rattle.ledger.proofs.Relation.Steps.{agree_abort, agree_publish}

module _ (t : State) (l : Ledger) (a : Agree t l) where
  -- a token that ended is not outstanding in the table
  ended_stale : (k : LoadToken) → In k l.given → In k l.ended → rules.outstanding t k ≡ false
  ended_stale k i d =
      elim (is (rules.outstanding t k)) [
        | no! e ↦ e
        | yes! e ↦
            let w = outstanding_loads t k e in
            let (h, o, j, q, s) = held_in t l a k.slot w.low (loading_occupied (slot_at t k.slot) w.loading) in
            elim s [
              | as_clean c f b u ↦ absurd (false≢true (sym (loading_not_clean (slot_at t k.slot) w.loading) ∙ f))
              | as_loading c f b y p g u m n ↦ absurd (n (subst (λ (z : LoadToken). In z l.ended) (sym (a.orderly.single y k m i (sym g ∙ w.generation))) d))
            ]
      ]

  still_outstanding : (k : LoadToken) → In k l.given → (In k l.ended → ⊥) → rules.outstanding t k ≡ true
  still_outstanding k i n = loads_outstanding t k (a.still k i n)

  publish_stale : (k : LoadToken) → rules.outstanding t k ≡ false → rules.publish t k ≡ record { table = t; answer = refuse STALE }
  unfolding rules.publish
  publish_stale k e = rw (sound_inv t a.inv, e)

  abort_stale : (k : LoadToken) → rules.outstanding t k ≡ false → rules.abort t k ≡ record { table = t; answer = refuse STALE }
  unfolding rules.abort
  abort_stale k e = rw (sound_inv t a.inv, e)

  pub publish_agrees : (k : LoadToken) → T (was_given l k) → ((rules.publish t k).answer ≡ expect_end l k) × Agree (rules.publish t k).table (feed_publish l k (rules.publish t k).answer)
  unfolding expect_end outstanding was_given feed_publish
  publish_agrees k g =
      elim (among k l.given) [
        | away q n ↦ absurd (subst T q g)
        | amid q i ↦ elim (among k l.ended) [
          | amid b d ↦ rw (publish_stale k (ended_stale k i d), q, b) (refl, a)
          | away b n ↦ let (u, e, p) = publish_step t a.inv k (still_outstanding k i n) (omega (arith, (a.orderly.numbers k i).1, a.uses)) in rw (e, q, b) (refl, agree_publish a k i n p)
        ]
      ]

  pub abort_agrees : (k : LoadToken) → T (was_given l k) → ((rules.abort t k).answer ≡ expect_end l k) × Agree (rules.abort t k).table (feed_abort l k (rules.abort t k).answer)
  unfolding expect_end outstanding was_given feed_abort
  abort_agrees k g =
      elim (among k l.given) [
        | away q n ↦ absurd (subst T q g)
        | amid q i ↦ elim (among k l.ended) [
          | amid b d ↦ rw (abort_stale k (ended_stale k i d), q, b) (refl, a)
          | away b n ↦ let (u, e, p) = abort_step t a.inv k (still_outstanding k i n) in rw (e, q, b) (refl, agree_abort a k i n p)
        ]
      ]
