-- SPDX-License-Identifier: Apache-2.0
-- One name that opens every rule up to here, for what is computed: `unfolding table_rules`.
use Rattle.std.specs.Prelude.{ℕ}
use Rattle.basics.specs.Numbers.{more, doubled, power_over}
use Rattle.basics.specs.Capacity.{need_capacity}
use Rattle.basics.specs.Lists.{down, keep, every, some?, first, each_slot}
use Rattle.key.specs.Key.{same_key}
use Rattle.key.specs.Bucket.{rotated, sum_of, bucket_of, bucket_count, count_for}
use Rattle.index.specs.Chain.{sizes, walked, can_insert, insert_index, unlinked, remove_from, remove_index}
use Rattle.index.specs.Free.{top_vacant, take_vacant, release_index, vacate}
use Rattle.index.specs.Fresh.{fresh_index, no_index, new_index}
use Rattle.eviction.specs.Entries.{older, fresh_heap, no_heap, new_heap}
use Rattle.eviction.specs.Entries as heap-entries
use Rattle.eviction.specs.Sift.{swapped, up_to, child_of, down_to, sift_from}
use Rattle.eviction.specs.Heap.{insert_heap, place_of, touch_at, touch_heap, popped, put_at, settle, remove_at, remove_heap}
use Rattle.eviction.specs.Victim.{candidate_at, oldest_of, victim_from, victim_of}
use Rattle.state.specs.Slots.{occupied, clean_with}
use Rattle.state.specs.Fresh.{empty, fresh, no_table, new, sound_sizes}
use Rattle.state.specs.Find.{find_from, find_key, touch_next, hit_at, seek_at, seek}
use Rattle.state.specs.Victim.{victim, target_or, target}
use Rattle.state.specs.Access.{take_top, evict, free, load_into, occupy, reserve, capacity_busy, reserve_at, choose, miss, access_seen, access}
use Rattle.state.specs.Tokens.{loads_for, outstanding, publish, abort}
use Rattle.state.specs.Lookup.{found_seen, lookup}
use Rattle.state.specs.Remove.{detach_clean, remove_clean, need_clean, detach_counted, remove, detach}
use Rattle.state.specs.Reads.{validate, peek_from, peek_clean, clean_entry, cold_candidate, oldest_clean}

unfoldable pub table_rules : ℕ
unfolding more doubled power_over need_capacity down keep every some? first each_slot same_key rotated sum_of bucket_of bucket_count count_for sizes
    walked can_insert insert_index unlinked remove_from remove_index top_vacant take_vacant release_index fresh_index no_index new_index older fresh_heap
    no_heap new_heap heap-entries.sized candidate_at oldest_of victim_from victim_of swapped up_to child_of down_to sift_from insert_heap place_of
    touch_at touch_heap popped put_at settle remove_at remove_heap occupied clean_with empty fresh no_table new sound_sizes find_from find_key
    touch_next hit_at seek_at seek victim target_or target take_top evict free load_into occupy reserve capacity_busy reserve_at choose miss
    access_seen access vacate loads_for outstanding publish abort found_seen lookup detach_clean remove_clean need_clean detach_counted remove
    detach validate peek_from peek_clean clean_entry cold_candidate oldest_clean
table_rules = 0
