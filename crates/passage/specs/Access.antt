-- SPDX-License-Identifier: Apache-2.0
-- Access through the gate.
use Rattle.std.specs.Prelude.{Bool, List, ℕ}
use Rattle.key.specs.declared.CacheKey.{CacheKey}
use Rattle.state.specs.declared.State.{State}
use Rattle.state.specs.Answers.{Given, After}
use Rattle.state.specs.Access.{access}
use Rattle.gate.specs.declared.Gate.{Gate}
use Rattle.gate.specs.Gate.{admits}

-- "While paused or pending, access loads nothing.": document 01's access, loading allowed only where the gate admits it
unfoldable pub access_through : State → Gate → CacheKey → Bool → List ℕ → After Given
access_through t g key allow pins = access t key (admits g allow) pins
