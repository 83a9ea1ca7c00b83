-- SPDX-License-Identifier: Apache-2.0
-- No keys visit no slot; what a refusal leaves; and which refusal comes first. Assumes nothing.
use mathlib.Core.Logic.{◌⊎◌, inl, inr}
use Prim.Native.Nat.{ℕ, ◌<◌}
use mathlib.Core.Path.{◌≡◌, refl, ◌∙◌}
use mathlib.Core.Bool.{false, ◌&&◌}
use mathlib.Core.List.{List, [], map}
use lib.Dec.{leb, eqb}
use lib.ListN.{length, get_or, take}
use borrow.Author.Tests.{lt-leb, ne_eqb}
use Rattle.basics.specs.Try.{Try, ok, refuse}
use Rattle.basics.specs.Lists.{keep}
use Rattle.basics.proofs.Tests.{yes!, no!, is}
use Rattle.index.specs.Chain.{CHAIN}
use Rattle.state.specs.declared.State.{State}
use Rattle.batch.specs.Batch.{PEEK_BATCH, visit_chain, visit_chains, slot_for, unless_refused, visits_of, peek_batch}
use Rattle.batch.proofs.Visits.{visit_found}
use Rattle.batch.proofs.Totals.{total_none, total_same}
use Rattle.laws_batch.specs.Laws.{NoKeys, RefusalLeaves, TenThenThirteen}

no_visits : (t : State) → visit_chains t [] ≡ ok 0
unfolding visit_chain keep
no_visits t =
    total_same (visit_chain t []) (λ b. ok 0) t.index.buckets (λ b l.
    visit_found t (get_or t.index.lengths b 0) [] CHAIN (get_or t.index.heads b 0) refl)
    ∙ total_none t.index.buckets

pub no_keys : NoKeys
unfolding peek_batch visits_of
no_keys t keys s = rw (s, no_visits t)

left_by : (list slots : List ℕ) (r : Try ℕ) (n : ℕ) → (unless_refused list slots r).answer ≡ refuse n
    → unless_refused list slots r ≡ record { answer = refuse n; visited = 0; list = list }
left_by list slots (ok m) n e = cc
left_by list slots (refuse m) n e = rw e

pub refusal_leaves : RefusalLeaves
unfolding peek_batch visits_of
refusal_leaves t keys count list n e = left_by list (map (slot_for t) (take count keys)) _ n e

misfit : (count : ℕ) (list : List ℕ) → PEEK_BATCH < count ⊎ (length list ≡ count → ⊥) → (leb count PEEK_BATCH && eqb (length list) count) ≡ false
misfit count list (inl more) = rw (lt-leb count PEEK_BATCH more)
misfit count list (inr other) = elim (is (leb count PEEK_BATCH)) [ yes! e ↦ rw (e, ne_eqb (length list) count other) | no! e ↦ rw e ]

pub ten_then_thirteen : TenThenThirteen
unfolding peek_batch visits_of
ten_then_thirteen t keys count list = (λ s. rw s, λ s m. rw (s, misfit count list m))
