-- SPDX-License-Identifier: Apache-2.0
-- The token places, and what a refused record leaves. Assumes nothing.
use Rattle.std.proofs.Common.{Option as Maybe, Some, None, if◌then◌else◌}
use Prim.Native.Nat.{ℕ}
use native.Mathlib.Omega.{arith}
use mathlib.Core.Path.{◌≡◌, refl, ap}
use mathlib.Core.Bool.{Bool, true, false, not}
use mathlib.Core.List.{List}
use mathlib.Core.Logic.{inl, inr}
use mathlib.Core.Option.{Option, none, some}
use lib.Dec.{eqb}
use borrow.Author.Tests.{eq-eqb, ne_eqb}
use Rattle.basics.specs.Try.{Try, ok, refuse}
use Rattle.basics.specs.Answers.{Fine, done}
use Rattle.basics.proofs.Tests.{is, yes!, no! }
use Rattle.state.specs.declared.State.{State}
use Rattle.state.specs.declared.LoadToken.{LoadToken}
use Rattle.state.specs.Answers.{Given, hit, in_progress, reserved, evicted, busy, After}
use Rattle.state.specs.Fresh.{new}
use Rattle.state.specs.Tokens.{publish, abort}
use Rattle.state.specs.Lookup.{lookup}
use Rattle.state.specs.Remove.{need_clean, remove}
use Rattle.maintenance_resize.specs.Answers.{Size, unchanged, busy_now, resized}
use Rattle.sheet_lines.specs.declared.Record.{Record}
use Rattle.sheet_lines.specs.declared.Said.{Said}
use Rattle.sheet_standing.specs.declared.Standing.{Standing}
use Rattle.sheet_steps.specs.Standing.{Stepped, with_state, place_at}
use Rattle.sheet_steps.specs.Steps.{say_new, step_new, say_access, access_of, step_access, say_done, say_token, step_publish, step_abort, say_found, step_lookup}
use Rattle.sheet_steps.specs.Steps.{say_removed, step_remove, say_pinned, step_pin, say_size, resize_of, step_resize}
use Rattle.sheet_steps.specs.Steps.{say_count, reclaim_of, step_reclaim, step_code, step_record}
use Rattle.laws_sheet.specs.Places.{RefusedNew, token_of, put_in, AccessPuts, TokensStay, EmptyPlace}

-- ── 1 ──
new_refused : (s : Standing) (c : ℕ) (t : State) (a : Try Fine) (n : ℕ) → (say_new s c t a).said ≡ Said.Refused n → (say_new s c t a).standing ≡ s
unfolding say_new
new_refused s c t (ok done) n e = let w : ◌≡◌ {A = ℕ} 0 1 = cc in absurd (omega arith)
new_refused s c t (refuse m) n e = refl

pub refused_new : RefusedNew
unfolding step_record step_new
refused_new s r n one = rw one (new_refused s r.number (new r.number).table (new r.number).answer n)

-- ── 2 ──
access_puts_of : (s : Standing) (place : ℕ) (t : State) (a : Try Given) → (say_access s place t a).standing.places ≡ put_in s.places place (token_of a)
unfolding say_access
access_puts_of s place t (ok (hit slot)) = refl
access_puts_of s place t (ok in_progress) = refl
access_puts_of s place t (ok (reserved k)) = refl
access_puts_of s place t (ok (evicted k)) = refl
access_puts_of s place t (ok busy) = refl
access_puts_of s place t (refuse n) = refl

pub access_puts : AccessPuts
unfolding step_record step_code step_access
access_puts s r st e =
    let later = ne_eqb r.code 1 (omega arith) in
    let stands : not s.stands ≡ false = ap not st in
    rw (later, stands, eq-eqb r.code 2 e) (access_puts_of s r.place (access_of s r).table (access_of s r).answer)

-- ── 3 to 9 ──
abbrev Stay : Standing → Stepped → Type 0
Stay s a = a.standing.places ≡ s.places

stay_done : (s : Standing) (a : Try Fine) → Stay s (say_done s a)
unfolding say_done
stay_done s (ok done) = refl
stay_done s (refuse n) = refl

stay_token : (s : Standing) (call : LoadToken → After Fine) (p : Maybe LoadToken) → Stay s (say_token s call p)
unfolding say_token
stay_token s call (Some k) = stay_done (with_state s (call k).table) (call k).answer
stay_token s call None = refl

stay_found : (s : Standing) (a : Try (Option ℕ)) → Stay s (say_found s a)
unfolding say_found
stay_found s (ok (some slot)) = refl
stay_found s (ok none) = refl
stay_found s (refuse n) = refl

stay_removed : (s : Standing) (slot : ℕ) (a : Try Fine) → Stay s (say_removed s slot a)
unfolding say_removed
stay_removed s slot (ok done) = refl
stay_removed s slot (refuse n) = refl

stay_pinned : (s : Standing) (slot : ℕ) (pin : Bool) (a : Try Bool) → Stay s (say_pinned s slot pin a)
unfolding say_pinned
stay_pinned s slot pin (ok b) = refl
stay_pinned s slot pin (refuse n) = refl

stay_size : (s : Standing) (t : State) (list : List ℕ) (a : Try Size) → Stay s (say_size s t list a)
unfolding say_size
stay_size s t list (ok unchanged) = refl
stay_size s t list (ok busy_now) = refl
stay_size s t list (ok (resized c)) = refl
stay_size s t list (refuse n) = refl

stay_count : (s : Standing) (count : ℕ) (a : Try Fine) → Stay s (say_count s count a)
unfolding say_count
stay_count s count (ok done) = refl
stay_count s count (refuse n) = refl

module _ (s : Standing) (r : Record) where
  stay_publish : Stay s (step_publish s r)
  unfolding step_publish
  stay_publish = stay_token s (publish s.state) (place_at s r.place)

  stay_abort : Stay s (step_abort s r)
  unfolding step_abort
  stay_abort = stay_token s (abort s.state) (place_at s r.place)

  stay_lookup : Stay s (step_lookup s r)
  unfolding step_lookup
  stay_lookup = stay_found (with_state s (lookup s.state r.key).table) (lookup s.state r.key).answer

  stay_remove : Stay s (step_remove s r)
  unfolding step_remove
  stay_remove = stay_removed (with_state s (remove s.state r.number).table) r.number (remove s.state r.number).answer

  stay_pin : Stay s (step_pin s r)
  unfolding step_pin
  stay_pin = stay_pinned s r.number r.allow (need_clean s.state r.number)

  stay_resize : Stay s (step_resize s r)
  unfolding step_resize
  stay_resize = stay_size s (resize_of s r.number).table (resize_of s r.number).list (resize_of s r.number).answer

  stay_reclaim : Stay s (step_reclaim s r)
  unfolding step_reclaim
  stay_reclaim = stay_count (with_state s (reclaim_of s r.number).table) (reclaim_of s r.number).count (reclaim_of s r.number).answer

  -- whatever the tests of the code say
  stay_tests : (b3 b4 b5 b6 b7 b8 : Bool)
      → Stay s (if b3 then step_publish s r else if b4 then step_abort s r else if b5 then step_lookup s r else if b6 then step_remove s r else
      if b7 then step_pin s r else if b8 then step_resize s r else step_reclaim s r)
  stay_tests true b4 b5 b6 b7 b8 = stay_publish
  stay_tests false true b5 b6 b7 b8 = stay_abort
  stay_tests false false true b6 b7 b8 = stay_lookup
  stay_tests false false false true b7 b8 = stay_remove
  stay_tests false false false false true b8 = stay_pin
  stay_tests false false false false false true = stay_resize
  stay_tests false false false false false false = stay_reclaim

  stay_code : (r.code ≡ 2 → ⊥) → Stay s (step_code s r r.code)
  unfolding step_code
  stay_code ne =
      let c = r.code in
      rw (ne_eqb c 2 ne) (stay_tests (eqb c 3) (eqb c 4) (eqb c 5) (eqb c 6) (eqb c 7) (eqb c 8))

pub tokens_stay : TokensStay
unfolding step_record
tokens_stay s r h =
    let later = ne_eqb r.code 1 (omega arith) in
    elim (is (not s.stands)) [ yes! e ↦ rw (later, e) | no! e ↦ rw (later, e) (stay_code s r (omega arith)) ]

-- ── an empty place ──
pub empty_place_lem : EmptyPlace
unfolding step_record step_code step_publish step_abort say_token
empty_place_lem s r st (inl three) e = rw (three, st, e)
empty_place_lem s r st (inr four) e = rw (four, st, e)
