-- SPDX-License-Identifier: Apache-2.0
-- "the rest restored in old slot order" does not stop: each key left is in the new table after, or its chain is full. Assumes nothing.
use Prim.Native.Nat.{ℕ, ◌+◌, ◌<◌, ◌≤◌}
use native.Mathlib.Omega.{arith}
use mathlib.Core.Path.{◌≡◌, refl, sym, ap, ◌∙◌}
use mathlib.Core.Logic.{◌⊎◌, inl, inr}
use mathlib.Core.Bool.{true, false≢true}
use mathlib.Core.List.{List}
use lib.Dec.{eqb}
use borrow.Author.Tests.{eqb-true, eqb-false}
use Rattle.basics.specs.Lists.{each_slot}
use Rattle.basics.specs.Counts.{bit}
use Rattle.basics.proofs.Tests.{yes!, no!, is}
use Rattle.key.specs.declared.CacheKey.{CacheKey}
use Rattle.state.specs.declared.State.{State}
use Rattle.state.specs.Slots.{slot_at, is_clean}
use Rattle.maintenance_resize.specs.Move.{Moving, moving_of, keep_new, restore_unless, restore_rest}
use Rattle.laws_table.specs.Table.{Absent}
use Rattle.laws_table.proofs.TableParts.{slots_sum}
use Rattle.laws_maintenance.specs.Calm.{Calm, Present, Full}
use Rattle.laws_maintenance.proofs.Loops.{Reaches, each_slot_lem}
use Rattle.laws_maintenance.proofs.CalmTables.{not_present, there!, absent!, peeked}
use Rattle.laws_maintenance.proofs.SlotsAhead.{ahead, all_ahead, next_ahead}
use Rattle.laws_maintenance.proofs.Draws.{over_trans, over_present, Draws, full!, no_slot!, draws!, draw}
use Rattle.laws_maintenance.proofs.ChainRoom.{long_full, full_over}
use Rattle.laws_maintenance.proofs.MoveFates.{Left, reason_stays, waits!, went!, gone!, Going}
use Rattle.laws_maintenance.proofs.MoveDrops.{Dropped}

-- where a key that waits is to be found: in the new table, or its chain there is full
abbrev pub Settled : State → CacheKey → Type 0
Settled n key = Present n key ⊎ Full n key

-- keys from k on are not yet in the new table, and have a slot there; those before are settled
pub record Filling (t : State) (pins : List ℕ) (n : State) (k : ℕ) (m : Moving) : Type 0 where
  pub going : Going t pins n 0 m
  pub absent : (s : ℕ) → k ≤ s → s < t.capacity → is_clean (slot_at m.old s) ≡ true → Absent m.new (slot_at t s).key
  pub settled : (s : ℕ) → s < k → is_clean (slot_at m.old s) ≡ true → Settled m.new (slot_at t s).key
  pub room : ahead m.old k ≤ m.new.index.free_len

-- ── the steps ──
module _ {t : State} {pins : List ℕ} {n : State} {k : ℕ} {m : Moving} (f : Filling t pins n k m) (hk : k < t.capacity) where
  next_room : ahead m.old (k + 1) + bit (is_clean (slot_at m.old k)) ≡ ahead m.old k
  next_room = next_ahead m.old k (omega (arith, f.going.old.capacity))

  fill_next : (is_clean (slot_at m.old k) ≡ true → Settled m.new (slot_at t k).key) → Filling t pins n (k + 1) m
  fill_next a =
      record {
        going = f.going;
        absent = λ s hs h c. f.absent s (omega arith) h c;
        settled = λ s hs c. elim (is (eqb s k)) [ yes! e ↦ let q : s ≡ k = eqb-true s k e in rw q (a (rw q at c)) | no! e ↦ f.settled s (omega (arith, eqb-false s k e)) c ];
        room = omega (arith, f.room, next_room);
      }

  module _ (c : is_clean (slot_at m.old k) ≡ true) where
    room_here : ahead m.old (k + 1) + 1 ≡ ahead m.old k
    room_here = let one : bit (is_clean (slot_at m.old k)) ≡ 1 = rw c in omega (arith, next_room)

    fill_slot : m.new.index.free_len ≡ 0 → ⊥
    fill_slot e = omega (arith, f.room, room_here)

    -- a key of the table with one more was there before, or waited
    left : {u : State} → Draws t m.new k u → (r : ℕ) → r < t.capacity → is_clean (slot_at t r) ≡ true → Left t (moving_of m.old u m.list) r → Left t m r
    left a r hr cr (inr w) = inr w
    left a r hr cr (inl p) =
        elim (peeked m.new f.going.new.calm (slot_at t r).key) [
          | there! q e ↦ inl q
          | absent! n e ↦ elim (is (eqb r k)) [ yes! z ↦ inr (rw (eqb-true r k z) c) | no! z ↦ absurd (not_present (a.absent r hr cr (eqb-false r k z) n) p) ]
        ]

    fill_more : {u : State} → Draws t m.new k u → Filling t pins n (k + 1) (moving_of m.old u m.list)
    fill_more {u} a =
        let g = f.going in
        let full : (q : CacheKey) → Full m.new q → Full u q = full_over g.new.calm a.drawn.calm a.over in
        record {
          going = record {
            old = g.old;
            new = a.drawn;
            over = over_trans g.over a.over;
            size = g.size;
            plain = g.plain;
            fates = λ s hs cs. elim (g.fates s hs cs) [
              | waits! x y z ↦ waits! x y z
              | went! p q ↦ went! (over_present a.over p) q
              | gone! x y z why ↦ gone! x y (a.absent s hs cs (λ e. false≢true (sym x ∙ ap (λ (j : ℕ). is_clean (slot_at m.old j)) e ∙ c)) z) (reason_stays m.old u m.list a.over.capacity (full (slot_at t s).key) (left a) why)
            ];
          };
          absent = λ s hs h cs. a.absent s h (rw (g.old.part s cs) at cs) (omega arith) (f.absent s (omega arith) h cs);
          settled = λ s hs cs. elim (is (eqb s k)) [
            | yes! e ↦ inl (rw (eqb-true s k e) a.present)
            | no! e ↦ elim (f.settled s (omega (arith, eqb-false s k e)) cs) [ inl p ↦ inl (over_present a.over p) | inr b ↦ inr (full (slot_at t s).key b) ]
          ];
          room = omega (arith, f.room, room_here, a.one, a.over.capacity, slots_sum a.drawn.calm.inv, a.drawn.calm.quiet, slots_sum g.new.calm.inv, g.new.calm.quiet);
        }

pub fill_step : (t : State) → Calm t → (pins : List ℕ) (n : State) (k : ℕ) (m : Moving) → k < t.capacity → Filling t pins n k m → Reaches (Filling t pins n (k + 1)) (restore_rest k m)
unfolding restore_rest restore_unless keep_new
fill_step t w pins n k m hk f =
    elim (is (is_clean (slot_at m.old k))) [
      | no! e ↦ rw e (record { value = m; gives = refl; good = fill_next f hk (λ c. absurd (false≢true (sym e ∙ c))) })
      | yes! e ↦
          let d = f.going.new in
          let same : slot_at m.old k ≡ slot_at t k = f.going.old.part k e in
          let c : is_clean (slot_at t k) ≡ true = rw same at e in
          rw (e, same) (elim (peeked m.new d.calm (slot_at t k).key) [
            | there! p q ↦ rw q (record { value = m; gives = refl; good = fill_next f hk (λ x. inl p) })
            | absent! a q ↦ rw (q, same) (elim (draw t w m.new d k hk c a) [
              | full! h z ↦ rw z (record { value = m; gives = refl; good = fill_next f hk (λ x. inr (long_full m.new d.calm.inv (slot_at t k).key h)) })
              | no_slot! h z ↦ absurd (fill_slot f hk e h)
              | draws! u z b ↦ rw z (record { value = moving_of m.old u m.list; gives = refl; good = fill_more f hk e b })
            ])
          ])
    ]

-- ── the whole `for` ──
pub fill_start : (t : State) (pins : List ℕ) (n : State) (m : Moving) → Dropped t pins n m → Filling t pins n 0 m
fill_start t pins n m d =
    let l = d.left in
    let lo = l.going.old in
    record {
      going = l.going;
      absent = λ s h hs c. rw (lo.part s c) at (l.apart s hs c);
      settled = λ s hs. absurd (omega arith);
      room = omega (arith, all_ahead m.old lo.inv, d.fits, slots_sum l.going.new.calm.inv, l.going.new.calm.quiet);
    }

pub restore_rest_lem : (t : State) → Calm t → (pins : List ℕ) (n : State) (m : Moving) → Dropped t pins n m → Reaches (Filling t pins n t.capacity) (each_slot restore_rest t.capacity 0 m)
restore_rest_lem t w pins n m d = each_slot_lem restore_rest (Filling t pins n) t.capacity (fill_step t w pins n) m (fill_start t pins n m d)
