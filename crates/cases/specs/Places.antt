-- SPDX-License-Identifier: Apache-2.0
-- What is said of the texts of answers.
use Rattle.std.specs.Prelude.{◌≤◌, ◌≡◌, length}
use Rattle.picture_numbers.specs.declared.Page.{Page}

-- the place behind it is within the list, which is the same still and has as many places as before
pub record Within (before : Page) (after : Page) : Type 0 where
  pub place : after.at ≤ length before.bytes.now
  pub size : length after.bytes.now ≡ length before.bytes.now
  pub same_reference : after.bytes.ghost_name ≡ before.bytes.ghost_name
