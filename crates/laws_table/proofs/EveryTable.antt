-- SPDX-License-Identifier: Apache-2.0
-- What the length kept for a chain does on every table, however made up: no invariant is asked for. The search that both searches are stands here again,
-- beside `walk_from` of state_search, as laws stand over rules and laws_table stands over no crate of code. Assumes nothing.
use Rattle.std.proofs.Common.{if◌then◌else◌}
use Prim.Native.Nat.{ℕ, zero, suc, ◌+◌, ◌-◌, ◌<◌, ◌≤◌}
use native.Mathlib.Omega.{arith}
use mathlib.Core.Path.{◌≡◌, refl, sym, ◌∙◌}
use mathlib.Core.Bool.{Bool, true, false, not, false≢true}
use mathlib.Core.List.{List, [], ◌∷◌}
use mathlib.Core.Option.{Option, none, some}
use lib.Dec.{ltb, leb, eqb, leb-suc-suc}
use lib.ListN.{length, get_or, set}
use borrow.Author.Tests.{eqb-true, leb-false, lt-ltb, lt-leb, eq-eqb, ne_eqb}
use Rattle.basics.specs.Try.{Try, ok, refuse, need, ◌>>◌}
use Rattle.basics.specs.Refusals.{STOP}
use Rattle.basics.specs.Numbers.{NONE}
use Rattle.basics.specs.Members.{In, here, there}
use Rattle.basics.proofs.Tests.{yes!, no!, is, no_ltb, met, ok_same, none_some, refuse_ok}
use Rattle.key.specs.declared.CacheKey.{CacheKey}
use Rattle.key.specs.Bucket.{bucket_of}
use Rattle.key.proofs.Buckets.{bucket_low}
use Rattle.index.specs.declared.Index.{Index}
use Rattle.index.specs.Chain.{CHAIN, sized, head_of, next_of, length_of, walked, can_insert, unlinked, remove_from, remove_index}
use Rattle.index.proofs.Cases.{has_sizes}
use Rattle.state.specs.declared.State.{State}
use Rattle.state.specs.Slots.{slot_at, occupied}
use Rattle.state.specs.Fresh.{sound}
use Rattle.state.specs.Find.{ended, find_from, find_key, seek}
use Rattle.state.specs.Lookup.{lookup}
use Rattle.state.specs.Access.{access}
use Rattle.state.specs.Reads.{peek_from, peek_clean}
use Rattle.state.proofs.Cases.{sound_sizes_lem, ended_no_slot}
use Rattle.laws_table.specs.Chains.{Linked}
use Rattle.laws_table.specs.Room.{room_from, walked_room}
use Rattle.laws_table.specs.Lengths.{keeping, with_lengths, has_key, has_clean, Miscounted, DiffersIs10, CallsMetWith10, TrueLength, NoneIsCounted}
use Rattle.laws_table.specs.Lengths.{SearchStops, RemovalStops, BelowZeroIs10, RoomAsWalked, RoomOnValid}
use Rattle.laws_table.proofs.ChainWalks.{walk_linked, linked_one}

-- ── the end of a chain ──
ended_none : (kept n : ℕ) → ended kept n ≡ ok none → kept + n ≡ CHAIN
unfolding walked
ended_none kept n h =
    elim (is (eqb (kept + n) CHAIN)) [ yes! w ↦ eqb-true (kept + n) CHAIN w | no! w ↦ absurd (refuse_ok {n = STOP} (rw w at h)) ]

ended_other : (kept n : ℕ) → (kept + n ≡ CHAIN → ⊥) → ended kept n ≡ refuse STOP
unfolding walked
ended_other kept n d = rw (ne_eqb (kept + n) CHAIN d)

-- the list of a chain, from a link that is a slot
linked_cons : (next : List ℕ) (c s : ℕ) (xs : List ℕ) → c ≤ 256 → s < c → Linked next c s xs
    → (ys : List ℕ) × (xs ≡ s ∷ ys) × Linked next c (get_or next s 0) ys
linked_cons next c s [] hc hs h = absurd (omega (arith, h))
linked_cons next c s (x ∷ xs) hc hs h = (xs, rw h.0, rw h.0 h.2)

-- ── both searches as one ──
-- over the links, with `kept` the length kept for the chain: a slot that is `bad` stops it, one that passes `test` is found
unfoldable search_from : ℕ → ℕ → List ℕ → (ℕ → Bool) → (ℕ → Bool) → ℕ → ℕ → Try (Option ℕ)
search_from zero c next bad test kept s = if eqb s NONE then ended kept 0 else refuse STOP
search_from (suc n) c next bad test kept s =
    if eqb s NONE then ended kept (suc n) else
    if leb c s then refuse STOP else
    if bad s then refuse STOP else
    if test s then ok (some s) else
    search_from n c next bad test kept (get_or next s 0)

abbrev vacant_at : State → ℕ → Bool
vacant_at t x = not (occupied (slot_at t x))

abbrev none_at : ℕ → Bool
none_at x = false

find_search : (n : ℕ) (t : State) (key : CacheKey) (s : ℕ)
    → find_from n t key s ≡ search_from n t.capacity t.index.next (vacant_at t) (has_key t key) (length_of t.index key) s
unfolding find_from search_from
find_search zero t key s = refl
find_search (suc n) t key s = rw (find_search n t key (next_of t.index s))

peek_search : (n : ℕ) (t : State) (key : CacheKey) (s : ℕ)
    → peek_from n t key s ≡ search_from n t.capacity t.index.next none_at (has_clean t key) (length_of t.index key) s
unfolding peek_from search_from
peek_search zero t key s = refl
peek_search (suc n) t key s = rw (peek_search n t key (next_of t.index s))

module _ (c : ℕ) (next : List ℕ) (bad test : ℕ → Bool) where
  abbrev walk : ℕ → ℕ → ℕ → Try (Option ℕ)
  walk kept n s = search_from n c next bad test kept s

  -- how a search goes from the link s on, with n steps left. Only the end looks at the length kept.
  data Run : ℕ → ℕ → Type 0 where
    ends! : {n s : ℕ} → s ≡ NONE → ((kept : ℕ) → walk kept n s ≡ ended kept n) → Run n s
    stops! : {n s : ℕ} → ((kept : ℕ) → walk kept n s ≡ refuse STOP) → Run n s
    finds! : {n s : ℕ} → s < c → test s ≡ true → ((kept : ℕ) → walk kept n s ≡ ok (some s)) → Run n s
    goes! : {n s : ℕ} → s < c → ((kept : ℕ) → walk kept (suc n) s ≡ walk kept n (get_or next s 0)) → Run n (get_or next s 0) → Run (suc n) s

  run : (n s : ℕ) → Run n s
  unfolding search_from
  run zero s = elim (is (eqb s NONE)) [ yes! e ↦ ends! {n = zero} (eqb-true s NONE e) (λ kept. rw e) | no! e ↦ stops! {n = zero} {s = s} (λ kept. rw e) ]
  run (suc n) s =
      elim (is (eqb s NONE)) [
        | yes! e ↦ ends! {n = suc n} (eqb-true s NONE e) (λ kept. rw e)
        | no! e ↦ elim (is (leb c s)) [
          | yes! a ↦ stops! {n = suc n} {s = s} (λ kept. rw (e, a))
          | no! a ↦ elim (is (bad s)) [
            | yes! b ↦ stops! {n = suc n} {s = s} (λ kept. rw (e, a, b))
            | no! b ↦ elim (is (test s)) [
              | yes! f ↦ finds! {n = suc n} (leb-false c s a) f (λ kept. rw (e, a, b, f))
              | no! f ↦ goes! {n = n} (leb-false c s a) (λ kept. rw (e, a, b, f)) (run n (get_or next s 0))
            ]
          ]
        ]
      ]

  -- one that found none came to an end where the length kept is what was walked
  search_ends : (kept n s : ℕ) → Run n s → walk kept n s ≡ ok none → (xs : List ℕ) × Linked next c s xs × (kept + n ≡ CHAIN + length xs) × (length xs ≤ n)
  search_ends kept n s (ends! e g) h = ([], e, ended_none kept n (sym (g kept) ∙ h), omega arith)
  search_ends kept n s (stops! g) h = absurd (refuse_ok (sym (g kept) ∙ h))
  search_ends kept n s (finds! hs f g) h = absurd (none_some (ok_same (sym h ∙ g kept)))
  search_ends kept (suc n) s (goes! hs g r) h =
      let (xs, l, e, m) = search_ends kept n (get_or next s 0) r (sym (g kept) ∙ h) in
      (s ∷ xs, (refl, hs, l), omega (arith, e), omega (arith, m))

  -- one that found a slot finds it with any length kept
  search_found : (kept other n s x : ℕ) → Run n s → walk kept n s ≡ ok (some x) → walk other n s ≡ ok (some x)
  search_found kept other n s x (ends! e g) h = absurd (ended_no_slot kept n x (sym (g kept) ∙ h))
  search_found kept other n s x (stops! g) h = absurd (refuse_ok (sym (g kept) ∙ h))
  search_found kept other n s x (finds! hs f g) h = g other ∙ sym (g kept) ∙ h
  search_found kept other (suc n) s x (goes! hs g r) h =
      g other ∙ search_found kept other n (get_or next s 0) x r (sym (g kept) ∙ h)

  -- one that passes over every slot of a chain gives 10 where the length kept is not what was walked
  search_differs : (kept n s : ℕ) (xs : List ℕ) → c ≤ 256 → Run n s → Linked next c s xs → ((x : ℕ) → In x xs → test x ≡ false)
      → (kept + n ≡ CHAIN + length xs → ⊥) → walk kept n s ≡ refuse STOP
  search_differs kept n s xs hc (ends! e g) l p d =
      let z : xs ≡ [] = linked_one next c s xs [] hc l e in
      g kept ∙ ended_other kept n (λ q. d (rw z (omega (arith, q))))
  search_differs kept n s xs hc (stops! g) l p d = g kept
  search_differs kept n s xs hc (finds! hs f g) l p d =
      let (ys, e, r) = linked_cons next c s xs hc hs l in
      absurd (false≢true (sym (p s (rw e here)) ∙ f))
  search_differs kept (suc n) s xs hc (goes! hs g r) l p d =
      let (ys, e, k) = linked_cons next c s xs hc hs l in
      g kept ∙ search_differs kept n (get_or next s 0) ys hc r k (λ y m. p y (rw e (there m))) (λ q. d (rw e (omega (arith, q))))

-- ── from the head of the key's chain, after the first test ──
module _ (t : State) (key : CacheKey) (bad test : ℕ → Bool) where
  abbrev searched : ℕ → Try (Option ℕ)
  searched kept = need (sound t) STOP >> search_from CHAIN t.capacity t.index.next bad test kept (head_of t.index key)

  none_counted : searched (length_of t.index key) ≡ ok none → TrueLength t.capacity t.index key
  none_counted h =
      let c : ℕ = t.capacity in
      let head : ℕ = head_of t.index key in
      let kept : ℕ = length_of t.index key in
      let (q, w) = met (sound t) STOP (search_from CHAIN c t.index.next bad test kept head) none h in
      let (xs, l, e, m) = search_ends c t.index.next bad test kept CHAIN head (run c t.index.next bad test CHAIN head) w in
      record { chain = xs; linked = l; short = m; counted = omega (arith, e) }

  found_always : (kept other x : ℕ) → searched kept ≡ ok (some x) → searched other ≡ ok (some x)
  found_always kept other x h =
      let c : ℕ = t.capacity in
      let head : ℕ = head_of t.index key in
      let (q, w) = met (sound t) STOP (search_from CHAIN c t.index.next bad test kept head) (some x) h in
      rw q (search_found c t.index.next bad test kept other CHAIN head x (run c t.index.next bad test CHAIN head) w)

  differs_stops : Miscounted t key test → searched (length_of t.index key) ≡ refuse STOP
  differs_stops m =
      let c : ℕ = t.capacity in
      let head : ℕ = head_of t.index key in
      let kept : ℕ = length_of t.index key in
      elim (is (sound t)) [
        | no! q ↦ rw q
        | yes! q ↦ rw q (search_differs c t.index.next bad test kept CHAIN head m.chain (sound_sizes_lem q).small
            (run c t.index.next bad test CHAIN head) m.linked m.unmatched (λ e. m.differs (omega (arith, e))))
      ]

find_searched : (t : State) (key : CacheKey) → find_key t key ≡ searched t key (vacant_at t) (has_key t key) (length_of t.index key)
unfolding find_key
find_searched t key = rw (find_search CHAIN t key (head_of t.index key))

peek_searched : (t : State) (key : CacheKey) → peek_clean t key ≡ searched t key none_at (has_clean t key) (length_of t.index key)
unfolding peek_clean
peek_searched t key = rw (peek_search CHAIN t key (head_of t.index key))

-- ── the laws of the searches ──
pub differs_is_10 : DiffersIs10
differs_is_10 = (
  λ t key m. find_searched t key ∙ differs_stops t key (vacant_at t) (has_key t key) m,
  λ t key m. peek_searched t key ∙ differs_stops t key none_at (has_clean t key) m,
)

pub calls_met_with_10 : CallsMetWith10
unfolding lookup access seek
calls_met_with_10 t key m =
    let f : find_key t key ≡ refuse STOP = differs_is_10.0 t key m in (
      elim (is (sound t)) [ yes! q ↦ rw (q, f) | no! q ↦ rw q ],
      λ allow pins e. elim (is (sound t)) [ yes! q ↦ rw (q, eq-eqb (length pins) t.capacity e, f) | no! q ↦ rw q ],
    )

pub none_is_counted : NoneIsCounted
none_is_counted t key = (
  λ h. none_counted t key (vacant_at t) (has_key t key) (sym (find_searched t key) ∙ h),
  λ h. none_counted t key none_at (has_clean t key) (sym (peek_searched t key) ∙ h),
)

pub search_stops : SearchStops
search_stops t key x l =
    let kept : ℕ = length_of t.index key in
    let other : ℕ = length_of (keeping t.index l) key in (
      λ h. find_searched (with_lengths t l) key ∙ found_always t key (vacant_at t) (has_key t key) kept other x (sym (find_searched t key) ∙ h),
      λ h. peek_searched (with_lengths t l) key ∙ found_always t key none_at (has_clean t key) kept other x (sym (peek_searched t key) ∙ h),
    )

-- ── removal ──
pub below_zero_is_10 : BelowZeroIs10
unfolding remove_index
below_zero_is_10 c ix key x e = elim (is (sized c ix)) [ yes! q ↦ rw (q, no_ltb (length_of ix key) e) | no! q ↦ rw q ]

unlinked_keeping : (ix : Index) (b previous s : ℕ) (l : List ℕ)
    → unlinked (keeping ix l) b previous s ≡ keeping (unlinked ix b previous s) (set l b (get_or l b 0 - 1))
unfolding unlinked
unlinked_keeping ix b previous s l = refl

-- the walk does not look at lengths
remove_any : (n c : ℕ) (ix : Index) (b x previous s : ℕ) (k : Index) (l : List ℕ) → remove_from n c ix b x previous s ≡ ok k
    → remove_from n c (keeping ix l) b x previous s ≡ ok (keeping k (set l b (get_or l b 0 - 1)))
unfolding remove_from
remove_any zero c ix b x previous s k l h = absurd (refuse_ok {n = STOP} h)
remove_any (suc n) c ix b x previous s k l h =
    elim (is (leb c s)) [
      | yes! a ↦ absurd (refuse_ok {n = STOP} (rw a at h))
      | no! a ↦ elim (is (eqb s x)) [
        | yes! e ↦
            let q : unlinked ix b previous s ≡ k = ok_same (rw (a, e) at h) in
            rw (a, e, unlinked_keeping ix b previous s l, q)
        | no! e ↦ rw (a, e) (remove_any n c ix b x s (next_of ix s) k l (rw (a, e) at h))
      ]
    ]

pub removal_stops : RemovalStops
unfolding remove_index
removal_stops c ix key x k l h pos =
    let b : ℕ = bucket_of key ix.buckets in
    let walk : Try Index = remove_from CHAIN c ix b x NONE (head_of ix key) in
    let (q, w) = met (sized c ix) STOP (need (ltb 0 (length_of ix key)) STOP >> walk) k h in
    let (z, v) = met (ltb 0 (length_of ix key)) STOP walk k w in
    rw (q, lt-ltb 0 (get_or l b 0) (omega (arith, pos))) (remove_any CHAIN c ix b x NONE (head_of ix key) k l v)

-- ── room ──
-- the walk for room, along a chain: whether it is shorter than the steps
room_ends : (c : ℕ) (ix : Index) (n : ℕ) → room_from n c ix NONE ≡ ok (ltb 0 n)
unfolding room_from
room_ends c ix zero = refl
room_ends c ix (suc n) = rw (lt-ltb 0 (suc n) (omega arith))

room_goes : (c : ℕ) (ix : Index) → c ≤ 256 → (n x : ℕ) (xs : List ℕ) → x < c → Unit {0} → room_from n c ix (next_of ix x) ≡ ok (ltb (length xs) n)
    → room_from (suc n) c ix x ≡ ok (ltb (suc (length xs)) (suc n))
unfolding room_from
room_goes c ix hc n x xs hx u e = rw (ne_eqb x NONE (omega arith), lt-leb c x hx, leb-suc-suc (suc (length xs)) n) e

true_room : (c : ℕ) (ix : Index) (key : CacheKey) → TrueLength c ix key → can_insert c ix key ≡ walked_room c ix key
unfolding can_insert walked_room
true_room c ix key r =
    elim (is (sized c ix)) [
      | no! q ↦ rw q
      | yes! q ↦ rw (q, r.counted) (sym (walk_linked (λ n s. room_from n c ix s) (λ n xs. ok (ltb (length xs) n)) (λ x. Unit {0}) ix.next c
          (room_ends c ix) (room_goes c ix (has_sizes q).small) CHAIN (head_of ix key) r.chain r.linked (λ x m. tt) r.short))
    ]

pub room_as_walked : RoomAsWalked
room_as_walked = (true_room, λ t key h. true_room t.capacity t.index key ((none_is_counted t key).0 h))

pub room_on_valid : RoomOnValid
room_on_valid t v key =
    let r = v.chains in
    let b : ℕ = bucket_of key t.index.buckets in
    let hb : b < t.index.buckets = bucket_low key t.index.buckets r.some_buckets in
    true_room t.capacity t.index key (record { chain = r.chain b; linked = r.linked b hb; short = r.short b; counted = r.counted b hb })
