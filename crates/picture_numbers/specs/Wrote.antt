-- SPDX-License-Identifier: Apache-2.0
-- What a page holds after a text was written into it.
use Rattle.std.specs.Prelude.{ℕ, ◌+◌, min, ◌≡◌, List, length}
use Rattle.std.proofs.lemmas.List.Edits.{sets}
use Rattle.picture_numbers.specs.declared.Page.{Page}

-- how many bytes stand there
abbrev pub waiting : Page → ℕ
waiting p = min p.at (length p.bytes.now)

-- `sets` stores byte by byte, and a byte past the end falls away: where there is room, `sets bytes at text` is
-- `take at bytes ++ text ++ drop (at + length text) bytes` (`sets-eq` of lib.Seq). The place after it is the place behind the text, or the end.
-- The third part follows from the first. It is stated so that callers find it. By the fourth it is written into the same list still.
pub record Wrote (before : Page) (text : List ℕ) (after : Page) : Type 0 where
  pub bytes : after.bytes.now ≡ sets before.bytes.now before.at text
  pub place : after.at ≡ min (before.at + length text) (length before.bytes.now)
  pub size : length after.bytes.now ≡ length before.bytes.now
  pub same_reference : after.bytes.ghost_name ≡ before.bytes.ghost_name

-- it is written into the same list still, which is as long as before
pub record SameList (before : Page) (after : Page) : Type 0 where
  pub size : length after.bytes.now ≡ length before.bytes.now
  pub same_reference : after.bytes.ghost_name ≡ before.bytes.ghost_name
