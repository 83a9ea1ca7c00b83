-- SPDX-License-Identifier: Apache-2.0
-- A sheet one record after the other: a law for each call, from what the code knows of its answer. Assumes nothing.
use Rattle.std.proofs.Common.{◌≡◌, ℕ, zero, suc, ◌+◌, ◌/◌, ◌<◌, min, true, List, ◌++◌, length, get_or, take, replicate, refl, sym, ap, ◌∙◌, arith, length-append, ne_eqb}
use Rattle.std.proofs.Math.ListN.{get_or-append}
use Rattle.std.proofs.Math.Nat.{add-div_left, div-eq_of_lt}
use Rattle.std.proofs.Math.Numerals.{suc-eq-add-one}
use Rattle.std.specs.List.{fold}
use Rattle.std.proofs.lemmas.List.{get_or-append-add}
use mathlib.Core.Option.{Option}
use Rattle.basics.specs.Try.{Try}
use Rattle.basics.specs.Numbers.{NONE}
use Rattle.basics.specs.Answers.{Fine}
use Rattle.key.specs.declared.CacheKey.{CacheKey}
use Rattle.state.specs.declared.State.{State}
use Rattle.state.specs.declared.LoadToken.{LoadToken}
use Rattle.state.specs.Answers.{Given, After}
use Rattle.state.specs.Fresh.{new}
use Rattle.state.specs.Access.{access}
use Rattle.state.specs.Tokens.{publish, abort}
use Rattle.state.specs.Lookup.{lookup}
use Rattle.state.specs.Reads.{peek_clean}
use Rattle.maintenance_reclaim.specs.Answers.{Reclaiming}
use Rattle.maintenance_reclaim.specs.Reclaim.{reclaim}
use Rattle.maintenance_resize.specs.Answers.{Resizing}
use Rattle.maintenance_resize.specs.Resize.{resize}
use Rattle.maintenance_resize.specs.Cost.{Costs, cost}
use Rattle.gate.specs.declared.Gate.{Gate}
use Rattle.gate.specs.Gate.{at_first}
use Rattle.passage.specs.Access.{access_through}
use Rattle.batch.specs.Batch.{Peeking, peek_batch}
use Rattle.bench.specs.declared.Sum.{Sum}
use Rattle.bench.specs.Reel.{reel}
use Rattle.bench.specs.Sum.{no_sum, plus, word_of, access_number, done_number, found_number, size_number}
use Rattle.bench.specs.Run.{Running, running, no_token, start, lent_pins, lent_list, placed, after_done, after_access, after_lookup, after_resize, after_reclaim, after_batch, after_peek, after_cost, run_code, code_of, place_of, number_of, key_of, run_record, run_from, total}

-- a record in front of what is left, taken
run_shift : (n : ℕ) (chunk later : List ℕ) (at : ℕ) (x : Running) → run_from n (chunk ++ later) (length chunk + at) x ≡ run_from n later at x
unfolding run_from
run_shift zero chunk later at x = refl
run_shift (suc n) chunk later at x =
    let one : length chunk + at + 1 ≡ length chunk + (at + 1) = omega arith in
    let two : length chunk + at + 2 ≡ length chunk + (at + 2) = omega arith in
    let three : length chunk + at + 3 ≡ length chunk + (at + 3) = omega arith in
    rw (one, two, three, get_or-append-add chunk later at 0, get_or-append-add chunk later (at + 1) 0, get_or-append-add chunk later (at + 2) 0) (run_shift n chunk later (at + 3) _)

pub run_on : (chunk later : List ℕ) {rest : List ℕ} (x : Running) {y : Running} → rest ≡ chunk ++ later → length chunk ≡ 3
    → run_record x (get_or chunk 0 0) (get_or chunk 1 0) (get_or chunk 2 0) ≡ y → run_from (length rest / 3) rest 0 x ≡ run_from (length later / 3) later 0 y
unfolding run_from
run_on chunk later {rest} x {y} e three step =
    let n : length rest / 3 ≡ suc (length later / 3) = rw (e, length-append chunk later, three) (add-div_left (length later) (omega arith) ∙ sym (suc-eq-add-one _)) in
    let a : get_or rest 0 0 ≡ get_or chunk 0 0 = rw e (get_or-append chunk later 0 0 (omega (arith, three))) in
    let b : get_or rest 1 0 ≡ get_or chunk 1 0 = rw e (get_or-append chunk later 0 1 (omega (arith, three))) in
    let c : get_or rest 2 0 ≡ get_or chunk 2 0 = rw e (get_or-append chunk later 0 2 (omega (arith, three))) in
    let told : run_record x (get_or rest 0 0) (get_or rest 1 0) (get_or rest 2 0) ≡ y = rw (a, b, c) step in
    let here : length chunk + 0 ≡ 3 = omega (arith, three) in
    rw n (ap (run_from (length later / 3) rest 3) told ∙ rw e (rw here at (run_shift (length later / 3) chunk later 0 y)))

-- so what is left still comes to the same; `u` and `later` are what `next` leaves
pub on : {s u : ℕ} (rest chunk later : List ℕ) (x : Running) {y z : Running} {R : Type 0} → (s ≡ 3) × (run_from (length rest / 3) rest 0 x ≡ z)
    → (u ≡ s) × ((rest ≡ chunk ++ later) × (length chunk ≡ s)) × R → run_record x (get_or chunk 0 0) (get_or chunk 1 0) (get_or chunk 2 0) ≡ y
    → (u ≡ 3) × (run_from (length later / 3) later 0 y ≡ z)
on rest chunk later x inv next step = (next.0 ∙ inv.0, sym (run_on chunk later x next.1.0 (next.1.1 ∙ inv.0) step) ∙ inv.1)

-- and no whole record
pub run_end : (rest : List ℕ) (x : Running) → length rest < 3 → run_from (length rest / 3) rest 0 x ≡ x
unfolding run_from
run_end rest x l = let n : length rest / 3 ≡ 0 = div-eq_of_lt l in rw n

-- where a run begins
pub starts : {a : After Fine} {k : LoadToken} → a ≡ new 1 → k ≡ no_token → running a.table (replicate 16 k) no_sum ≡ start
unfolding start
starts e k = rw (k, ← e)

-- and what its end adds
pub total_told : (t : State) (tokens : List LoadToken) (sum : Sum) {a b c d e f : Sum}
    → a ≡ plus sum t.counters.hits → b ≡ plus a t.counters.misses → c ≡ plus b t.counters.evictions
    → d ≡ plus c t.clean → e ≡ plus d t.loading → f ≡ plus e t.next_access_sequence
    → f.second ≡ total (running t tokens sum)
unfolding total
total_told t tokens sum ea eb ec ed ee ef = rw (ef, ee, ed, ec, eb, ea)

-- what a record makes of what stands, by what its call gave; n is the number that the answer adds
module _ (t : State) (tokens : List LoadToken) (sum : Sum) (head file index : ℕ) where
  abbrev Goes : State → List LoadToken → Sum → Type 0
  Goes u later s = run_record (running t tokens sum) head file index ≡ running u later s

  abbrev Not : ℕ → Type 0
  Not code = code_of head ≡ code → ⊥

  module _ {a : After Fine} {s : Sum} {n : ℕ} (m : n ≡ done_number a.answer) (more : s ≡ plus sum n) where
    pub new_goes : code_of head ≡ 1 → a ≡ new (number_of head) → Goes a.table tokens s
    unfolding run_record run_code after_done
    new_goes code e = rw (more, m, code, ← e)

    pub publish_goes : code_of head ≡ 3 → a ≡ publish t (get_or tokens (place_of head) no_token) → Goes a.table tokens s
    unfolding run_record run_code after_done
    publish_goes code e = rw (more, m, code, ← e)

    pub abort_goes : code_of head ≡ 4 → a ≡ abort t (get_or tokens (place_of head) no_token) → Goes a.table tokens s
    unfolding run_record run_code after_done
    abort_goes code e = rw (more, m, code, ← e)

  pub lookup_goes : {a : After (Option ℕ)} {s : Sum} {n : ℕ} → n ≡ found_number a.answer → s ≡ plus sum n → code_of head ≡ 5 → a ≡ lookup t (key_of head file index) → Goes a.table tokens s
  unfolding run_record run_code after_lookup
  lookup_goes m more code e = rw (more, m, code, ← e)

  pub batch_goes : {a : Peeking} {r s u : Sum} {n : ℕ} {keys : List CacheKey} → n ≡ done_number a.answer → r ≡ plus sum n → s ≡ plus r a.visited
      → u ≡ fold plus s a.list → keys ≡ reel 64 (key_of head file index) (number_of head) → code_of head ≡ 11
      → a ≡ peek_batch t keys 64 (replicate 64 NONE) → Goes t tokens u
  unfolding run_record run_code after_batch
  batch_goes m first second more on code e = rw (more, second, first, m, code, ← on, ← e)

  pub peek_goes : {a : Try (Option ℕ)} {s : Sum} {n : ℕ} → n ≡ found_number a → s ≡ plus sum n → code_of head ≡ 12
      → a ≡ peek_clean t (key_of head file index) → Goes t tokens s
  unfolding run_record run_code after_peek
  peek_goes m more code e = rw (more, m, code, ← e)

  -- with pin bytes lent
  module _ {k : ℕ} (lent : k ≡ min t.capacity 256) where
    module _ {a : After Given} {s : Sum} {n : ℕ} {later : List LoadToken} (m : n ≡ access_number a.answer) (more : s ≡ plus sum n) (p : later ≡ placed tokens (place_of head) a.answer) where
      pub access_goes : code_of head ≡ 2 → a ≡ access t (key_of head file index) true (take k (replicate 256 0)) → Goes a.table later s
      unfolding run_record run_code after_access lent_pins
      access_goes code e = rw (more, m, p, code, ← lent, ← e)

      pub through_goes : {g : Gate} → g ≡ at_first → code_of head ≡ 10 → a ≡ access_through t g (key_of head file index) true (take k (replicate 256 0)) → Goes a.table later s
      unfolding run_record run_code after_access lent_pins
      through_goes gate code e = rw (more, m, p, code, ← lent, ← gate, ← e)

    pub resize_goes : {a : Resizing} {s : Sum} {n : ℕ} → n ≡ size_number a.answer → s ≡ plus sum n → code_of head ≡ 8
        → a ≡ resize t (number_of head) (take k (replicate 256 0)) (take k (replicate 256 NONE)) → Goes a.table tokens s
    unfolding run_record run_code after_resize lent_pins lent_list
    resize_goes m more code e = rw (more, m, code, ← lent, ← e)

    pub cost_goes : {a : Costs} {r s u v : Sum} {n : ℕ} → n ≡ size_number a.answer → r ≡ plus sum n → s ≡ plus r a.capacity → u ≡ plus s a.drops
        → v ≡ plus u a.restores → code_of head ≡ 13 → a ≡ cost t (number_of head) (take k (replicate 256 0)) → Goes t tokens v
    unfolding run_record run_code after_cost lent_pins
    cost_goes m first second third more code e = rw (more, third, second, first, m, code, ← lent, ← e)

    pub reclaim_goes : {a : Reclaiming} {s : Sum} {n : ℕ} → n ≡ word_of 10000 a.count → s ≡ plus sum n
        → Not 1 × Not 2 × Not 3 × Not 4 × Not 5 × Not 8 × Not 10 × Not 11 × Not 12 × Not 13 → a ≡ reclaim t (number_of head) (take k (replicate 256 0)) → Goes a.table tokens s
    unfolding run_record run_code after_reclaim lent_pins
    reclaim_goes m more (n1, n2, n3, n4, n5, n8, n10, n11, n12, n13) e =
        rw (more, m, ne_eqb _ _ n1, ne_eqb _ _ n2, ne_eqb _ _ n3, ne_eqb _ _ n4, ne_eqb _ _ n5, ne_eqb _ _ n8, ne_eqb _ _ n10, ne_eqb _ _ n11, ne_eqb _ _ n12, ne_eqb _ _ n13, ← lent, ← e)
