-- SPDX-License-Identifier: Apache-2.0
-- `Index::try_new`: "The free stack of a fresh table gives 0, 1, 2 and so on"; "other places past a length are 0".
use Rattle.std.specs.Prelude.{ℕ, ◌-◌, ◌++◌, replicate}
use Rattle.basics.specs.Try.{Try, ok, ◌>>◌}
use Rattle.basics.specs.Numbers.{NONE}
use Rattle.basics.specs.Lists.{down}
use Rattle.basics.specs.Capacity.{need_capacity}
use Rattle.key.specs.Bucket.{bucket_count}
use Rattle.index.specs.declared.Index.{Index}

-- no slot in a chain, every slot on the stack
unfoldable pub fresh_index : ℕ → Index
fresh_index c = record {
  heads = replicate (bucket_count c) NONE ++ replicate (512 - bucket_count c) 0;
  lengths = replicate 512 0;
  buckets = bucket_count c;
  next = replicate c NONE ++ replicate (256 - c) 0;
  free = down c ++ replicate (256 - c) 0;
  free_len = c;
}

-- of a refused new table: "every number 0"
unfoldable pub no_index : Index
no_index = record {
  heads = replicate 512 0;
  lengths = replicate 512 0;
  buckets = 0;
  next = replicate 256 0;
  free = replicate 256 0;
  free_len = 0;
}

-- `try_new`, of a capacity that a table may have
unfoldable pub new_index : ℕ → Try Index
new_index c = do
  need_capacity c
  ok (fresh_index c)
