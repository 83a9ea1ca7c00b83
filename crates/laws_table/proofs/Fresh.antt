-- SPDX-License-Identifier: Apache-2.0
-- A fresh index and a fresh heap of a capacity that a table may have hold nothing, and the stack every slot. Assumes nothing.
use Prim.Native.Nat.{ℕ, ◌+◌, ◌-◌, ◌<◌, ◌≤◌}
use native.Mathlib.Omega.{arith}
use mathlib.Core.Path.{◌≡◌, sym, ◌∙◌}
use mathlib.Core.List.{List, [], ◌++◌}
use mathlib.Core.Option.{Option, none}
use lib.ListN.{length, get_or, replicate, length-append, length-replicate, get_or-replicate, get_or-append}
use Rattle.basics.specs.Numbers.{NONE}
use Rattle.basics.specs.Lists.{down}
use Rattle.basics.specs.Members.{In, Once}
use Rattle.basics.proofs.Tests.{none_some}
use Rattle.basics.proofs.Members.{in_none, in_map, map_in, once_map, in_down, down_in, once_down, down_length, down_at}
use Rattle.key.specs.Bucket.{bucket_count}
use Rattle.key.proofs.Least.{some_bucket, few_buckets}
use Rattle.index.specs.Fresh.{fresh_index}
use Rattle.eviction.specs.Entries.{entry_of, fresh_heap}
use Rattle.laws_table.specs.Heap.{Heaped, Holds}
use Rattle.laws_table.specs.Chains.{Chains}
use Rattle.laws_table.specs.Stack.{stack_of, Stack}

-- n times `NONE`, then 0
filled : (n m i : ℕ) → i < n → get_or (replicate n NONE ++ replicate m 0) i 0 ≡ NONE
filled n m i h = get_or-append (replicate n NONE) (replicate m 0) 0 i (omega (arith, length-replicate n NONE)) ∙ get_or-replicate n i NONE 0 h

filled_length : (n m : ℕ) → length (replicate n NONE ++ replicate m 0) ≡ n + m
filled_length n m = length-append (replicate n NONE) (replicate m 0) ∙ omega (arith, length-replicate n NONE, length-replicate {A = ℕ} m 0)

pub fresh_heaped : (c : ℕ) → Heaped (fresh_heap c)
unfolding fresh_heap
fresh_heaped c k hk kl = absurd (omega arith)

module _ (c : ℕ) (h : c ≤ 256) (g : ℕ → Option ℕ) (nothing : (x : ℕ) → g x ≡ none) where
  pub fresh_heap_lem : Holds c (fresh_heap c) g
  unfolding fresh_heap
  fresh_heap_lem =
      record {
        size_entries = length-replicate 256 (entry_of 0 0);
        size_positions = filled_length c (256 - c) ∙ omega arith;
        small = h;
        fits = omega arith;
        low = λ i hi. absurd (omega arith);
        back = λ i hi. absurd (omega arith);
        last = λ i hi. absurd (omega arith);
        spot = λ s u hs e. absurd (none_some (sym (nothing s) ∙ e));
        gone = λ s hs e. filled c (256 - c) s hs;
      }

  pub fresh_chains : Chains c (fresh_index c) g
  unfolding fresh_index
  fresh_chains =
      record {
        size_heads = filled_length (bucket_count c) (512 - bucket_count c) ∙ omega (arith, few_buckets c h);
        size_lengths = length-replicate {A = ℕ} 512 0;
        size_next = filled_length c (256 - c) ∙ omega arith;
        small = h;
        some_buckets = some_bucket c (omega arith);
        few_buckets = few_buckets c h;
        chain = λ b. [];
        linked = λ b hb. filled (bucket_count c) (512 - bucket_count c) b hb;
        once = λ b. tt;
        short = λ b. omega arith;
        counted = λ b hb. get_or-replicate 512 b 0 0 (omega (arith, few_buckets c h));
        member = λ b x m. in_none m;
        complete = λ b x hx e. absurd (none_some (sym (nothing x) ∙ e));
        loose = λ x hx e. filled c (256 - c) x hx;
      }

  -- "The free stack of a fresh table gives 0, 1, 2 and so on"
  abbrev free : List ℕ
  free = down c ++ replicate (256 - c) 0

  free_at : (i : ℕ) → i < c → get_or free i 0 ≡ c - 1 - i
  free_at i hi = get_or-append (down c) (replicate (256 - c) 0) 0 i (omega (arith, down_length c)) ∙ down_at c i hi

  abbrev slot_at : ℕ → ℕ
  slot_at i = get_or free i 0

  in_stack : (x : ℕ) → x < c → In x (stack_of (fresh_index c))
  unfolding fresh_index
  in_stack x hx =
      let e : slot_at (c - 1 - x) ≡ x = free_at (c - 1 - x) (omega arith) ∙ omega arith in
      rw e at (in_map slot_at (in_down c (c - 1 - x) (omega arith)))

  stack_in : (x : ℕ) → In x (stack_of (fresh_index c)) → x < c
  unfolding fresh_index
  stack_in x m =
      let p = map_in slot_at (down c) x m in
      let lt = down_in c p.0 p.1 in
      omega (arith, p.2, free_at p.0 lt)

  stack_once : Once (stack_of (fresh_index c))
  unfolding fresh_index
  stack_once = once_map slot_at (down c) (once_down c) (λ i j m n e. let a = down_in c i m in let b = down_in c j n in omega (arith, free_at i a, free_at j b))

  pub fresh_stack : Stack c (fresh_index c) g
  unfolding fresh_index
  fresh_stack =
      record {
        size = length-append (down c) (replicate (256 - c) 0) ∙ omega (arith, down_length c, length-replicate {A = ℕ} (256 - c) 0);
        fits = omega arith;
        once = stack_once;
        low = stack_in;
        empty = λ x m. nothing x;
        complete = λ x hx e. in_stack x hx;
      }
