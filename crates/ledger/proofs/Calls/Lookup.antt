-- SPDX-License-Identifier: Apache-2.0
-- Lookup: a clean key is used, all else leaves table and ledger as they were. Assumes nothing.
use Prim.Native.Nat.{◌<◌}
use native.Mathlib.Omega.{arith}
use Rattle.basics.specs.Numbers.{MAX}
use Rattle.key.specs.declared.CacheKey.{CacheKey}
use Rattle.state.specs.declared.State.{State}
use Rattle.state.specs.declared.Counters.{Counters}
use Rattle.state.specs.Parts.{with_counters}
use Rattle.state.specs.Lookup as rules
use Rattle.laws_table.proofs.TableParts.{sound_inv}
use Rattle.laws_table.proofs.KeySearch.{absent!, waits!, hit!, spent!, sought}
use Rattle.ledger.specs.Ledger.{Ledger, feed_lookup}
use Rattle.ledger.proofs.Relation.Agree.{Agree, agree_dated}
use Rattle.ledger.proofs.Relation.Steps.{agree_used}

-- the ledger does not have the counters
pub agree_counters : {t : State} {l : Ledger} (k : Counters) → Agree t l → Agree (with_counters t k) l
agree_counters k a = record { inv = a.inv; orderly = a.orderly; capacity = a.capacity; uses = a.uses; generations = a.generations; fit = a.fit; still = λ y i n. let w = a.still y i n in record { low = w.low; loading = w.loading; key = w.key; generation = w.generation } }

pub lookup_agrees : (t : State) (l : Ledger) → Agree t l → (key : CacheKey) → l.uses < MAX → Agree (rules.lookup t key).table (feed_lookup l key (rules.lookup t key).answer)
unfolding rules.lookup rules.found_seen feed_lookup
lookup_agrees t l a key hu =
    rw (sound_inv t a.inv) (elim (sought t a.inv key (agree_dated t l a)) [
      | absent! n e ↦ rw e a
      | waits! x hx el ek e ↦ rw e (agree_counters _ a)
      | hit! x ec ek u e p ↦ rw e (agree_used a key ec ek p)
      | spent! m e ↦ absurd (omega (arith, a.uses))
    ])
