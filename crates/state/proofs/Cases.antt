-- SPDX-License-Identifier: Apache-2.0
-- What the proofs of the table's functions share and callers cite: the first test, and the end of a chain. Assumes nothing.
use Prim.Native.Nat.{ℕ, ◌≤◌, ◌<◌}
use mathlib.Core.Path.{◌≡◌, refl, sym}
use mathlib.Core.Bool.{Bool, true, ◌&&◌}
use mathlib.Core.Option.{some}
use Rattle.std.specs.Prelude.{Result, Ok, Err, nat_eq}
use Rattle.std.specs.Result.{result_eq}
use native.Mathlib.Omega.{arith}
use lib.Dec.{leb, ltb, eqb}
use borrow.Author.Tests.{ltb-true, leb-true, eqb-true, eqb-false, lt-ltb, le-leb, eq-eqb, ne_eqb}
use Rattle.basics.specs.Try.{Try, ok, refuse, ◌>>◌}
use Rattle.basics.specs.declared.Refusal.{Refusal}
use Rattle.basics.specs.Answers.{Fine, done, answer}
use Rattle.basics.specs.Refusals.{STOP}
use Rattle.basics.specs.Capacity.{need_capacity}
use Rattle.basics.proofs.Tests.{yes!, no!, is, and_left, and_right, refuse_ok, none_some, ok_same}
use Rattle.basics.proofs.Capacities.{capacity_fits, capacity_allowed}
use Rattle.key.specs.Bucket.{bucket_count, count_for}
use Rattle.key.proofs.Least.{some_bucket, few_buckets}
use Rattle.index.specs.Chain.{walked}
use Rattle.state.specs.Fresh.{sound_sizes}
use Rattle.state.specs.Find.{ended}

-- ---- the first test

-- what it tells of the sizes
pub record Sound (c buckets vacant held : ℕ) : Type 0 where
  pub some_slot : 0 < c
  pub small : c ≤ 256
  pub right : buckets ≡ bucket_count c
  pub some_bucket : 0 < buckets
  pub few : buckets ≤ 512
  pub stack : vacant ≤ c
  pub heap : held ≤ c

pub sound_sizes_lem : {c buckets vacant held : ℕ} → sound_sizes c buckets vacant held ≡ true → Sound c buckets vacant held
unfolding sound_sizes
sound_sizes_lem {c} {buckets} {vacant} {held} e =
    let v = ltb 0 c in
    let w = leb c 256 in
    let x = eqb buckets (bucket_count c) in
    let y = leb vacant c in
    let z = leb held c in
    let vwxy = and_left (v && w && x && y) z e in
    let vwx = and_left (v && w && x) y vwxy in
    let vw = and_left (v && w) x vwx in
    let s : c ≤ 256 = leb-true _ _ (and_right v w vw) in
    let b : buckets ≡ bucket_count c = eqb-true _ _ (and_right (v && w) x vwx) in
    record {
      some_slot = ltb-true _ _ (and_left v w vw);
      small = s;
      right = b;
      some_bucket = rw b (some_bucket c (omega arith));
      few = rw b (few_buckets c s);
      stack = leb-true _ _ (and_right (v && w && x) y vwxy);
      heap = leb-true _ _ (and_right (v && w && x && y) z e);
    }

-- a check that let pass
checked : {A : Type 0} (x : Try Fine) (r : Try A) (a : A) → (x >> r) ≡ ok a → (x ≡ ok done) × (r ≡ ok a)
checked (ok done) r a e = (refl, e)
checked (refuse k) r a e = absurd (refuse_ok e)

-- the first three tests, by what the bucket count of the capacity, or what refused it, was found to be
pub sizes_told : (c buckets : ℕ) (f : Refusal → Refusal → Bool) (r : Result ℕ Refusal) → answer r ≡ count_for c → ltb 0 c && leb c 256 && eqb buckets (bucket_count c) ≡ result_eq nat_eq f r (Ok buckets)
unfolding count_for
sizes_told c buckets f (Ok n) e =
    let p = checked (need_capacity c) (ok (bucket_count c)) n (sym e) in
    let fits = capacity_fits c p.0 in
    let m : bucket_count c ≡ n = cc in
    rw (lt-ltb 0 c fits.0, le-leb c 256 fits.1, m) (elim (is (eqb n buckets)) [
      | yes! v ↦ let q : buckets ≡ n = sym (eqb-true n buckets v) in rw (v, eq-eqb buckets n q)
      | no! v ↦ let q : buckets ≡ n → ⊥ = λ z. eqb-false n buckets v (sym z) in rw (v, ne_eqb buckets n q)
    ])
sizes_told c buckets f (Err why) e =
    elim (is (ltb 0 c)) [
      | no! v ↦ rw v
      | yes! v ↦ elim (is (leb c 256)) [
        | no! w ↦ rw (v, w)
        | yes! w ↦
            absurd (refuse_ok {a = bucket_count c} (rw (capacity_allowed c (ltb-true _ _ v) (leb-true _ _ w)) at e))
      ]
    ]

-- ---- the end of a chain

-- it gives no slot
pub ended_no_slot : (kept left x : ℕ) → ended kept left ≡ ok (some x) → ⊥
ended_no_slot kept left x e = elim (is (walked kept left)) [ yes! w ↦ none_some (ok_same (rw w at e)) | no! w ↦ refuse_ok {n = STOP} (rw w at e) ]
