-- SPDX-License-Identifier: Apache-2.0
-- A batch's visits, and whether it is refused, depend only on which keys it has, and not on their order or on how often one is given. Assumes nothing.
use Prim.Native.Nat.{ℕ, zero, suc}
use native.Mathlib.Omega.{arith}
use mathlib.Core.Path.{◌≡◌, refl, sym, ap, fun_ext, ◌∙◌}
use mathlib.Core.Bool.{Bool, not}
use mathlib.Core.List.{List, [], ◌∷◌}
use lib.Dec.{eqb}
use lib.ListN.{length, get_or, take}
use borrow.Author.Tests.{eq-eqb, ne_eqb, le-leb}
use Rattle.basics.specs.Try.{Try, ok, refuse}
use Rattle.basics.specs.Lists.{keep}
use Rattle.basics.specs.Members.{here}
use Rattle.basics.proofs.Members.{in_none}
use Rattle.basics.proofs.Keeps.{in_keep, keep_in}
use Rattle.key.specs.declared.CacheKey.{CacheKey}
use Rattle.key.specs.Bucket.{bucket_of}
use Rattle.index.specs.Chain.{CHAIN, next_of}
use Rattle.state.specs.declared.State.{State}
use Rattle.state.specs.Slots.{slot_at}
use Rattle.batch.specs.Batch.{PEEK_BATCH, holds, unfound, visit_from, visit_chain, total, unless_refused, visits_of, peek_batch}
use Rattle.laws_batch.specs.Laws.{SameKeys, SameVisits, SameCount}

-- ── which keys are left ──
same_keep : (p : CacheKey → Bool) (keys others : List CacheKey) → SameKeys keys others → SameKeys (keep p keys) (keep p others)
same_keep p keys others s = record {
  among = λ key m. let k = keep_in p keys key m in in_keep p (s.among key k.0) k.1;
  back = λ key m. let k = keep_in p others key m in in_keep p (s.back key k.0) k.1;
}

same_none : (keys others : List CacheKey) → SameKeys keys others → eqb (length keys) 0 ≡ eqb (length others) 0
same_none [] [] s = refl
same_none [] (b ∷ others) s = in_none (s.back b here)
same_none (a ∷ keys) [] s = in_none (s.among a here)
same_none (a ∷ keys) (b ∷ others) s = ne_eqb (length (a ∷ keys)) 0 (λ e. omega arith) ∙ sym (ne_eqb (length (b ∷ others)) 0 (λ e. omega arith))

-- ── the walks ──
same_from : (left : ℕ) (t : State) (kept : ℕ) (keys others : List CacheKey) (slot : ℕ) → SameKeys keys others
    → visit_from left t kept keys slot ≡ visit_from left t kept others slot
unfolding visit_from
same_from zero t kept keys others slot s = rw (same_none keys others s)
same_from (suc left) t kept keys others slot s =
    rw (
      same_none keys others s,
      same_from left t kept (unfound (slot_at t slot) keys) (unfound (slot_at t slot) others) (next_of t.index slot)
          (same_keep (λ key. not (holds (slot_at t slot) key)) keys others s),
    )

pub same_visits : SameVisits
unfolding visit_chain
same_visits t keys others s =
    ap (λ (f : ℕ → Try ℕ). total f t.index.buckets) (fun_ext (λ b.
    same_from CHAIN t (get_or t.index.lengths b 0) _ _ (get_or t.index.heads b 0) (same_keep (λ key. eqb (bucket_of key t.index.buckets) b) keys others s)))

-- ── the call ──
-- the lists have no part in the count and the answer
lists_apart : (list slots other found : List ℕ) (r : Try ℕ)
    → ((unless_refused list slots r).visited ≡ (unless_refused other found r).visited)
    × ((unless_refused list slots r).answer ≡ (unless_refused other found r).answer)
lists_apart list slots other found (ok n) = (refl, refl)
lists_apart list slots other found (refuse n) = (refl, refl)

pub same_count : SameCount
unfolding peek_batch visits_of
same_count t keys others count number list other s a b c d =
    rw (
      le-leb count PEEK_BATCH a,
      le-leb number PEEK_BATCH b,
      eq-eqb (length list) count c,
      eq-eqb (length other) number d,
      same_visits t (take count keys) (take number others) s,
    )
    (lists_apart list _ other _ _)
