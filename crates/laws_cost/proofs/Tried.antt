-- SPDX-License-Identifier: Apache-2.0
-- A resize of a valid table that is answered with a capacity tries each key that is not removed for room just once. Assumes nothing.
use Rattle.std.proofs.Common.{if◌then◌else◌}
use Prim.Native.Nat.{ℕ, zero, suc, ◌+◌, ◌-◌, ◌<◌, ◌≤◌, ◌^◌, min}
use native.Mathlib.Omega.{arith}
use mathlib.Core.Path.{◌≡◌, refl, sym, ap, ◌∙◌}
use mathlib.Core.Bool.{Bool, true, false, ◌&&◌, false≢true}
use mathlib.Core.List.{List}
use mathlib.Core.Option.{Option, none, some}
use lib.Dec.{ltb, leb, eqb}
use lib.ListN.{length, set, drop, replicate}
use borrow.Author.Tests.{eqb-true, eqb-false, ltb-false, leb-true, leb-false, lt-ltb, eq-eqb}
use Rattle.basics.specs.Try.{Try, ok, refuse, ◌>>=◌, ◌>>◌, need}
use Rattle.basics.specs.Refusals.{PINS, UNCLEAN}
use Rattle.basics.specs.Numbers.{NONE}
use Rattle.basics.specs.Lists.{each_slot}
use Rattle.basics.specs.Capacity.{need_capacity}
use Rattle.basics.proofs.Tests.{yes!, no!, is, and_left, refuse_ok, ok_same, went}
use Rattle.eviction.specs.Entries.{at}
use Rattle.eviction.specs.Victim.{unpinned}
use Rattle.state.specs.declared.State.{State}
use Rattle.state.specs.Slots.{slot_at, is_clean}
use Rattle.state.specs.Fresh.{fresh}
use Rattle.state.specs.Reads.{peek_clean}
use Rattle.maintenance_restore.specs.Pins.{pin_count, pins_clean, raised}
use Rattle.maintenance_restore.specs.Restore.{restore, candidate}
use Rattle.maintenance_restore.specs.Tries.{tries_on, tries_if, tries_candidate}
use Rattle.maintenance_resize.specs.Answers.{Size, unchanged, busy_now, resized, Resizing}
use Rattle.maintenance_resize.specs.Move.{Moving, moving_of, leave_to, leave_pinned, drop_oldest, keep_new, restore_unless, restore_rest}
use Rattle.maintenance_resize.specs.Resize.{unless_refused, fresh_start, remake_or_busy, resize_to, resize_steps, resize}
use Rattle.maintenance_resize.specs.Cost.{tries_slot, tries_rest, tries_remaking, tries_to, restores_of, Costs, by_answer}
use Rattle.laws_table.specs.Table.{Valid}
use Rattle.laws_table.proofs.TableParts.{at_place, clean_len, slots_sum, sound_inv}
use Rattle.laws_table.proofs.StepParts.{clean_pos}
use Rattle.laws_table.proofs.StepLeave.{detach_step, remove_step}
use Rattle.laws_maintenance.specs.Calm.{Calm}
use Rattle.laws_maintenance.proofs.Loops.{Reaches, each_slot_lem}
use Rattle.laws_maintenance.proofs.CalmTables.{not_present, there!, absent!, peeked}
use Rattle.laws_maintenance.proofs.SlotLeaves.{out_other, Less, less_all, less_out}
use Rattle.laws_maintenance.proofs.SlotsAhead.{ahead, all_ahead, none_ahead, next_ahead}
use Rattle.laws_maintenance.proofs.PinBytes.{pin_skip, pin_here, for_pins, OnClean, pins_clean_lem, raised_pins, raised_pos, raised_small}
use Rattle.laws_maintenance.proofs.PinnedKeys.{none!, some! }
use Rattle.laws_maintenance.proofs.CandidateOnce.{tried_once}
use Rattle.laws_maintenance.proofs.Candidates.{Pinning, candidate_law}
use Rattle.laws_maintenance.proofs.MoveLeaves.{leave_pinned_lem}
use Rattle.laws_maintenance.proofs.MoveDrops.{drop_oldest_lem}
use Rattle.laws_maintenance.proofs.MoveRestores.{Filling, fill_step, fill_start}
use Rattle.laws_maintenance.proofs.Remakes.{remake_law}
use Rattle.laws_cost.specs.Laws.{RestoresOnValid}
use Rattle.laws_cost.proofs.Foretells.{foretells}
use Rattle.laws_cost.proofs.Attempts.{no_pins, attempt_tries}

-- ── the pinned keys leave the old table ──
-- before the slot k: the slots from it on are as they were, and each pinned key before it has left
record Leaves (t : State) (pins : List ℕ) (n : State) (k : ℕ) (m : Moving) : Type 0 where
  pub old : Less t m.old
  pub new : m.new ≡ n
  pub ahead : (s : ℕ) → k ≤ s → slot_at m.old s ≡ slot_at t s
  pub count : m.old.clean + pin_count pins ≡ t.clean + pin_count (drop k pins)

module _ (t : State) (w : Calm t) (pins : List ℕ) (len : length pins ≡ t.capacity) (on : OnClean t pins)
    (c : ℕ) (n : State) (p : Pinning t pins c t.capacity n) where
  -- the slots whose keys leave are the pinned ones
  leave_one : (k : ℕ) (m : Moving) → k < t.capacity → Leaves t pins n k m → Reaches (Leaves t pins n (k + 1)) (leave_pinned k m)
  unfolding leave_pinned leave_to
  leave_one k m hk l =
      let same : slot_at m.old k ≡ slot_at t k = l.ahead k (omega arith) in
      elim (is (is_clean (slot_at m.old k))) [
        | no! e ↦
            let free : unpinned pins k ≡ true = elim (is (unpinned pins k)) [
              | yes! q ↦ q
              | no! q ↦ absurd (false≢true (sym e ∙ ap is_clean same ∙ on k hk q))
            ] in
            rw e (record { value = m; gives = refl; good = stays k m hk l free })
        | yes! e ↦
            let ct : is_clean (slot_at t k) ≡ true = rw same at e in
            rw (e, same) (elim (peeked n p.drawn.calm (slot_at t k).key) [
              | absent! a q ↦
                  let free : unpinned pins k ≡ true = elim (is (unpinned pins k)) [ yes! z ↦ z | no! z ↦ absurd (not_present a (p.behind k hk z)) ] in
                  let lacks : peek_clean m.new (slot_at t k).key ≡ ok none = rw l.new q in
                  rw lacks (record { value = m; gives = refl; good = stays k m hk l free })
              | there! r q ↦
                  let pin : unpinned pins k ≡ false = elim (is (unpinned pins k)) [ yes! z ↦ absurd (not_present (p.only k hk ct z) r) | no! z ↦ z ] in
                  let peeks : peek_clean m.new (slot_at t k).key ≡ ok (some r.slot) = rw l.new q in
                  let low : k < m.old.capacity = omega (arith, l.old.capacity) in
                  let (u, z, d) = detach_step m.old l.old.inv k low e in
                  rw (peeks, z) (record {
                    value = moving_of u m.new (set m.list k r.slot);
                    gives = refl;
                    good = record {
                      old = less_out l.old d;
                      new = l.new;
                      ahead = λ s h. out_other l.old.inv d s (λ x. omega arith) ∙ l.ahead s (omega arith);
                      count = omega (arith, l.count, d.clean, clean_pos m.old l.old.inv k low e, pin_here pins k (omega arith) pin);
                    };
                  })
            ])
      ]
    where
      stays : (k : ℕ) (m : Moving) → k < t.capacity → Leaves t pins n k m → unpinned pins k ≡ true → Leaves t pins n (k + 1) m
      stays k m hk l e =
          record { old = l.old; new = l.new; ahead = λ s h. l.ahead s (omega arith); count = omega (arith, l.count, pin_skip pins k (omega arith) e) }

  all_leave : Reaches (Leaves t pins n t.capacity) (each_slot leave_pinned t.capacity 0 (moving_of t n (replicate t.capacity NONE)))
  all_leave =
      each_slot_lem leave_pinned (Leaves t pins n) t.capacity leave_one (moving_of t n (replicate t.capacity NONE))
      (record { old = less_all t w.inv w.quiet; new = refl; ahead = λ s h. refl; count = refl })

-- ── the oldest are removed: as many keys as fit are left, or all ──
drops_to : (t : State) (left : ℕ) (m b : Moving) → Less t m.old → drop_oldest left m ≡ ok b → b.old.clean ≡ min m.old.clean (m.new.capacity - m.new.clean)
unfolding drop_oldest
drops_to t zero m b l e = absurd (refuse_ok e)
drops_to t (suc left) m b l e =
    elim (is (leb m.old.clean (m.new.capacity - m.new.clean))) [
      | yes! q ↦
          let z : m ≡ b = ok_same (rw q at e) in
          omega (arith, leb-true m.old.clean (m.new.capacity - m.new.clean) q, ap (λ (y : Moving). y.old.clean) z)
      | no! q ↦
          let many : m.new.capacity - m.new.clean < m.old.clean = leb-false m.old.clean (m.new.capacity - m.new.clean) q in
          let pos : 0 < m.old.eviction.len = omega (arith, clean_len l.inv) in
          let (low, c, h) = at_place l.inv 0 pos in
          let (u, z, d) = remove_step m.old l.inv (at m.old.eviction 0).slot low c in
          omega (arith, many, d.clean, drops_to t left (moving_of u m.new m.list) b (less_out l d) (rw (q, lt-ltb 0 m.old.eviction.len pos, z) at e))
    ]

-- ── the rest: each key left is tried ──
-- the old table stays as it is
keep_old : (m : Moving) (u : Option State) → (keep_new m u).old ≡ m.old
unfolding keep_new
keep_old m none = refl
keep_old m (some u) = refl

unless_old : (slot : ℕ) (m b : Moving) (to : Option ℕ) → restore_unless slot m to ≡ ok b → b.old ≡ m.old
unfolding restore_unless
unless_old slot m b (some to) e = ap (λ (y : Moving). y.old) (sym (ok_same e))
unless_old slot m b none e =
    let (u, p, q) = went (restore m.new (slot_at m.old slot).key (slot_at m.old slot).last_access) _ b e in
    ap (λ (y : Moving). y.old) (sym (ok_same q)) ∙ keep_old m u

rest_old : (slot : ℕ) (m b : Moving) → restore_rest slot m ≡ ok b → b.old ≡ m.old
unfolding restore_rest
rest_old slot m b e =
    elim (is (is_clean (slot_at m.old slot))) [
      | no! z ↦ ap (λ (y : Moving). y.old) (sym (ok_same (rw z at e)))
      | yes! z ↦ let (to, p, q) = went (peek_clean m.new (slot_at m.old slot).key) _ b (rw z at e) in unless_old slot m b to q
    ]

module _ (t : State) (w : Calm t) (pins : List ℕ) (n : State) where
  -- a key left is in no slot of the new table yet
  one_tried : (k : ℕ) (m : Moving) → k < t.capacity → Filling t pins n k m
      → (if is_clean (slot_at m.old k) then tries_slot (peek_clean m.new (slot_at m.old k).key) else 0) + ahead m.old (k + 1) ≡ ahead m.old k
  one_tried k m hk f =
      let next = next_ahead m.old k (omega (arith, f.going.old.capacity)) in
      elim (is (is_clean (slot_at m.old k))) [
        | no! e ↦ rw e (omega (arith, rw e at next))
        | yes! e ↦
            let same : slot_at m.old k ≡ slot_at t k = f.going.old.part k e in
            let a = f.absent k (omega arith) hk e in
            elim (peeked m.new f.going.new.calm (slot_at t k).key) [
              | there! p q ↦ absurd (not_present a p)
              | absent! x q ↦ rw (e, same, q) (omega (arith, rw e at next))
            ]
      ]

  rest_tried : (left k : ℕ) (m : Moving) → k + left ≡ t.capacity → Filling t pins n k m → tries_rest left k m ≡ ahead m.old k
  unfolding tries_rest
  rest_tried zero k m e f = sym (none_ahead m.old) ∙ ap (ahead m.old) (omega (arith, f.going.old.capacity))
  rest_tried (suc left) k m e f =
      let r = fill_step t w pins n k m (omega arith) f in
      let same : ahead r.value.old (k + 1) ≡ ahead m.old (k + 1) = ap (λ (y : State). ahead y (k + 1)) (rest_old k m r.value r.gives) in
      rw r.gives (omega (arith, rest_tried left (k + 1) r.value (omega arith) r.good, same, one_tried k m (omega arith) f))

-- ── a remaking ──
module _ (t : State) (w : Calm t) (pins : List ℕ) (len : length pins ≡ t.capacity) (on : OnClean t pins)
    (c : ℕ) (n : State) (p : Pinning t pins c t.capacity n) where
  remaking_tried : pin_count pins + tries_remaking t n ≡ min t.clean c
  unfolding tries_remaking
  remaking_tried =
      let one = leave_pinned_lem t w pins n p.drawn p.only in
      let a = one.value in
      let lo = one.good.going.old in
      let two = drop_oldest_lem t w.inv pins n 257 a (omega (arith, slots_sum lo.inv, lo.inv.small)) one.good in
      let b = two.value in
      let left = all_leave t w pins len on c n p in
      let same : left.value ≡ a = ok_same (sym left.gives ∙ one.gives) in
      let new : a.new ≡ n = ap (λ (y : Moving). y.new) (sym same) ∙ left.good.new in
      let rest = rest_tried t w pins n t.capacity 0 b (omega arith) (fill_start t pins n b two.good) ∙ all_ahead b.old two.good.left.going.old.inv in
      rw (one.gives, two.gives) (omega (
        arith,
        rest,
        drops_to t 257 a b lo two.gives,
        left.good.count,
        ap (λ (y : Moving). y.old.clean) same,
        ap (λ (y : State). y.clean) new,
        ap (λ (y : State). y.capacity) new,
        no_pins t pins t.capacity (omega (arith, len)),
        p.counted.count,
        p.counted.fits,
        p.capacity,
      ))

-- the one attempt tries the pinned keys
candidate_tried : (t : State) (pins : List ℕ) → t.capacity ≤ 256 → length pins ≡ t.capacity
    → (shrinking : Bool) (c left : ℕ) → 0 < c → c ≤ 256 → for_pins pins ≤ c
    → (n : State) → candidate (suc left) t pins shrinking c ≡ ok (some n) → tries_candidate (suc left) t pins shrinking c ≡ pin_count pins
unfolding tries_candidate
candidate_tried t pins small len shrinking c left pos hc big n e =
    let z = sym (tried_once t pins small len shrinking c left pos hc big) ∙ e in
    rw z (omega (arith, (attempt_tries t pins (fresh c) len).0 n z))

-- ── every answer ──
-- where n restores are told
abbrev Tried : State → ℕ → Try Size → Type 0
Tried t n (ok unchanged) = Unit {0}
Tried t n (ok busy_now) = Unit {0}
Tried t n (ok (resized c)) = n ≡ min t.clean c
Tried t n (refuse m) = Unit {0}

module _ (t : State) (v : Valid t) (asked : ℕ) (pins list : List ℕ) where
  abbrev c : ℕ
  c = raised asked pins

  abbrev Told : ℕ → Try Resizing → Type 0
  Told n x = Tried t n (unless_refused t list x).answer

  past : (n : ℕ) (b : Bool) (m : ℕ) (y : Try Resizing) → (b ≡ true → Told n y) → Told n (need b m >> y)
  past n b m y h = elim (is b) [ yes! e ↦ rw e (h e) | no! e ↦ rw e tt ]

  module _ (quiet : t.loading ≡ 0) (len : length pins ≡ t.capacity) (pc : pins_clean t.capacity t pins 0 ≡ true) (high : asked ≤ 256) where
    w : Calm t
    w = record { inv = v.0; quiet = quiet; distinct = v.1 }

    made : (c ≡ t.capacity → ⊥)
        → (let x = candidate 9 t pins (ltb c t.capacity) c in
        Told (tries_candidate 9 t pins (ltb c t.capacity) c + tries_on x (λ new. tries_if new (tries_remaking t))) (x >>= remake_or_busy t list))
    unfolding remake_or_busy
    made ne =
        let pos = raised_pos asked pins (omega (arith, v.0.small)) in
        let low = raised_small asked pins (omega (arith, v.0.small)) high in
        let big = raised_pins asked pins in
        let on = pins_clean_lem t pins pc in
        elim (candidate_law t w pins len on c (ltb c t.capacity) 8 pos low big) [
          | none! h e ↦ rw e tt
          | some! n p e ↦
              let r = remake_law t w pins n c p ne in
              let pinned = candidate_tried t pins v.0.small len (ltb c t.capacity) c 8 pos low big n e in
              rw (e, r.gives, r.good.remade.answer) (omega (arith, pinned, remaking_tried t w pins len on c n p, r.good.capacity))
        ]

    to : Told (tries_to t pins c) (resize_to t pins list c)
    unfolding resize_to tries_to fresh_start
    to =
        elim (is (eqb c t.capacity)) [
          | yes! e ↦ rw e tt
          | no! e ↦ elim (is (eqb t.clean 0 && ltb c t.capacity)) [
            | yes! q ↦ rw (e, q) (omega (arith, eqb-true t.clean 0 (and_left (eqb t.clean 0) (ltb c t.capacity) q)))
            | no! q ↦ rw (e, q) (made (eqb-false c t.capacity e))
          ]
        ]

  steps : length pins ≡ t.capacity → asked ≤ 256 → Told (restores_of t asked pins) (resize_steps t asked pins list)
  unfolding resize_steps restores_of
  steps len high =
      elim (is (eqb asked t.capacity)) [
        | yes! e ↦ rw e tt
        | no! e ↦ elim (is (ltb 0 t.loading)) [
          | yes! q ↦ rw (e, q) tt
          | no! q ↦
              let quiet : t.loading ≡ 0 = omega (arith, ltb-false 0 t.loading q) in
              rw (e, q) (past _ (pins_clean t.capacity t pins 0) UNCLEAN _ (λ pc. to quiet len pc high))
        ]
      ]

  whole : length list ≡ t.capacity → Tried t (restores_of t asked pins) (resize t asked pins list).answer
  unfolding resize need_capacity
  whole e =
      rw (sound_inv t v.0, eq-eqb (length list) t.capacity e) (elim (is (ltb 0 asked && leb asked (2 ^ 62))) [
        | no! q ↦ rw q tt
        | yes! q ↦ elim (is (leb asked 256)) [
          | no! p ↦ rw (q, p) tt
          | yes! p ↦ rw (q, p) (past _ (eqb (length pins) t.capacity) PINS _ (λ z. steps (eqb-true (length pins) t.capacity z) (leb-true asked 256 p)))
        ]
      ])

-- so many are told with a new capacity
told_by : (t : State) (list : List ℕ) (n : ℕ) (a : Try Size) (k : ℕ) → a ≡ ok (resized k) → Tried t n a → (by_answer t list n a).restores ≡ min t.clean k
told_by t list n a k e f = let z : n ≡ min t.clean k = rw e at f in rw e z

pub restores_on_valid : RestoresOnValid
restores_on_valid t v asked pins list k e q =
    let r = resize t asked pins list in
    ap (λ (x : Costs). x.restores) (foretells t asked pins list e) ∙ told_by t r.list (restores_of t asked pins) r.answer k q (whole t v asked pins list e)
