-- SPDX-License-Identifier: Apache-2.0
-- An emptied table made smaller is remade: a fresh table with the old numbers and counters. Assumes nothing.
use Prim.Native.Nat.{ℕ, ◌<◌}
use native.Mathlib.Omega.{arith}
use mathlib.Core.Path.{◌≡◌, refl, sym, ◌∙◌}
use mathlib.Core.Bool.{false≢true}
use mathlib.Core.List.{List}
use lib.ListN.{length-replicate}
use Rattle.basics.specs.Numbers.{NONE}
use Rattle.state.specs.declared.State.{State}
use Rattle.state.specs.Fresh.{empty, fresh}
use Rattle.maintenance_resize.specs.Move.{inherit}
use Rattle.maintenance_resize.specs.Resize.{fresh_start}
use Rattle.laws_table.proofs.StepParts.{clean_pos}
use Rattle.laws_maintenance.specs.Calm.{Calm}
use Rattle.laws_maintenance.specs.Remade.{Remade}
use Rattle.laws_maintenance.proofs.Lists.{all_same}
use Rattle.laws_maintenance.proofs.CalmTables.{fresh_calm, fresh_unclean}

pub fresh_start_size : (t : State) (c : ℕ) → (fresh_start t c).table.capacity ≡ c
unfolding fresh_start inherit fresh empty
fresh_start_size t c = refl

pub emptied : (t : State) → Calm t → (pins : List ℕ) (c : ℕ) → 0 < c → c < t.capacity → t.clean ≡ 0 → Remade t pins (fresh_start t c)
unfolding fresh_start inherit fresh empty
emptied t w pins c pos lt none =
    let f = fresh_calm c pos (omega (arith, w.inv.small)) in
    record {
      quiet = w.quiet;
      calm = record { inv = f.inv; quiet = f.quiet; distinct = f.distinct };
      answer = refl;
      other = λ e. omega arith;
      size = length-replicate t.capacity NONE;
      plain = λ s e. all_same t.capacity s NONE;
      places = λ s hs e. absurd (omega (arith, clean_pos t w.inv s hs e));
      sources = λ x hx e. absurd (false≢true (sym (fresh_unclean c x) ∙ e));
      uses = refl;
      generations = refl;
    }
