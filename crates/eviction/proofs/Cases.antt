-- SPDX-License-Identifier: Apache-2.0
-- What the proofs of the heap's functions share and callers cite: sizes, and the victim search one step on. Assumes nothing.
use Rattle.std.proofs.Common.{if◌then◌else◌}
use Prim.Native.Nat.{ℕ, zero, suc, ◌+◌, ◌-◌, ◌≤◌, ◌<◌}
use mathlib.Core.Path.{◌≡◌, refl}
use mathlib.Core.Bool.{true}
use mathlib.Core.List.{List}
use mathlib.Core.Option.{Option, none, some}
use native.Mathlib.Omega.{arith}
use lib.Dec.{leb, eqb}
use lib.ListN.{length}
use borrow.Author.Tests.{leb-true, leb-false, lt-leb}
use Rattle.std.proofs.lemmas.List.{get_or-take, length-take}
use Rattle.basics.specs.Try.{Try, ok, refuse}
use Rattle.basics.specs.Refusals.{STOP, PINS}
use Rattle.basics.proofs.Tests.{yes!, no!, is, and_left, and_right, met, left_suc, refuse_ok}
use Rattle.eviction.specs.declared.EvictionHeap.{EvictionHeap}
use Rattle.eviction.specs.Entries.{at, sized}
use Rattle.eviction.specs.Victim.{unpinned, victim_from, victim_of}

-- what the test of the sizes says
pub sized_fits : (c : ℕ) (h : EvictionHeap) → sized c h ≡ true → (c ≤ 256) × (h.len ≤ c)
unfolding sized
sized_fits c h e = (leb-true c 256 (and_left (leb c 256) (leb h.len c) e), leb-true h.len c (and_right (leb c 256) (leb h.len c) e))

-- the victim search at its end, past the heap's or the last place, and one step on
pub victim_end : (n c : ℕ) (h : EvictionHeap) (pins : List ℕ) (i : ℕ) → (i < h.len → n ≤ 0) → victim_from n c h pins i ≡ ok none
unfolding victim_from
victim_end zero c h pins i l = refl
victim_end (suc n) c h pins i l =
    elim (is (leb h.len i)) [ yes! e ↦ rw e | no! e ↦ let s : i < h.len = leb-false h.len i e in absurd (omega (arith, l s)) ]

pub victim_step : (n c : ℕ) (h : EvictionHeap) (pins : List ℕ) (i : ℕ) → 0 < n
    → victim_from n c h pins i
    ≡ (if leb h.len i then ok none else
    if leb c (at h i).slot then refuse STOP else
    if unpinned pins (at h i).slot then ok (some (at h i).slot) else
    victim_from (n - 1) c h pins (i + 1))
unfolding victim_from
victim_step zero c h pins i l = absurd (omega arith)
victim_step (suc n) c h pins i l = let e : suc n - 1 ≡ n = omega arith in rw e

-- the same at a place of the loop, which counts up
pub victim_place : (places c : ℕ) (h : EvictionHeap) (pins : List ℕ) (i : ℕ) → i < places → i < h.len
    → victim_from (places - i) c h pins i
    ≡ (if leb c (at h i).slot then refuse STOP else
    if unpinned pins (at h i).slot then ok (some (at h i).slot) else
    victim_from (places - (i + 1)) c h pins (i + 1))
unfolding victim_from
victim_place places c h pins i n l = rw (left_suc places i n, lt-leb h.len i l)

-- what it finds is a slot of the table
found_below : (n c : ℕ) (h : EvictionHeap) (pins : List ℕ) (i : ℕ) {s : ℕ} → victim_from n c h pins i ≡ ok (some s) → s < c
unfolding victim_from
found_below zero c h pins i e = let z : ◌≡◌ {A = ℕ} 0 1 = cc in absurd (omega arith)
found_below (suc n) c h pins i {s} e =
    elim (is (leb h.len i)) [
      | yes! a ↦ let f : ◌≡◌ {A = Try (Option ℕ)} (ok none) (ok (some s)) = rw a at e in let z : ◌≡◌ {A = ℕ} 0 1 = cc in absurd (omega arith)
      | no! a ↦ elim (is (leb c (at h i).slot)) [
        | yes! b ↦ absurd (refuse_ok {a = some s} (rw (a, b) at e))
        | no! b ↦ elim (is (unpinned pins (at h i).slot)) [
          | yes! u ↦ let f : ◌≡◌ {A = Try (Option ℕ)} (ok (some (at h i).slot)) (ok (some s)) = rw (a, b, u) at e in
              let w : (at h i).slot ≡ s = cc in omega (arith, leb-false c (at h i).slot b)
          | no! u ↦ found_below n c h pins (i + 1) (rw (a, b, u) at e)
        ]
      ]
    ]

pub victim_below : (places c : ℕ) (h : EvictionHeap) (pins : List ℕ) {s : ℕ} → victim_of places c h pins ≡ ok (some s) → (s < c) × (c ≤ 256)
unfolding victim_of
victim_below places c h pins {s} e =
    let a = met (sized c h) STOP _ (some s) e in
    let b = met (eqb (length pins) c) PINS _ (some s) a.1 in
    (found_below places c h pins 0 b.1, (sized_fits c h a.0).0)

-- the heap's first places, as a slice of its entries
pub ruleset taken = (get_or-take, length-take)
