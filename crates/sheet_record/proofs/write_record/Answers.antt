-- SPDX-License-Identifier: Apache-2.0
-- `sheet_record::write_record` meets its contract. Assumes nothing.
use native.Mathlib.Omega.{arith}
use Rattle.sheet_record.proofs.Laws.{written_back}
use Rattle.sheet_record.proofs.write_record.Goals as goal

pub returns : goal.returns
returns c = rw (
  c.copy_from_slice-3.ensures.after,
  c.to_le_bytes-3.ensures,
  c.copy_from_slice-2.ensures.after,
  c.to_le_bytes-2.ensures,
  c.copy_from_slice.ensures.after,
  c.to_le_bytes.ensures,
  c.from.ensures,
  c.in-Ok.ensures.1,
  c.in-Ok-try_from.ensures.1,
) (written_back c.args.call _ _ _ (omega arith) (omega arith) (omega arith) (omega arith) (omega arith) (omega arith) (omega arith))
