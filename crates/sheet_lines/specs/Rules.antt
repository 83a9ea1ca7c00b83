-- SPDX-License-Identifier: Apache-2.0
-- One name that opens every rule of records and lines, for what is computed: `unfolding line_rules`.
use Rattle.std.specs.Prelude.{ℕ}
use Rattle.sheet_lines.specs.Text.{bytes_of, digits_from, decimal}
use Rattle.sheet_lines.specs.Record.{low, in_range, fields_of, read_record}
use Rattle.sheet_lines.specs.Words.{tail_of, line_of}

unfoldable pub line_rules : ℕ
unfolding bytes_of digits_from decimal low in_range fields_of read_record tail_of line_of
line_rules = 0
