use Rattle.std.proofs.Common.{◌≡◌, ◌-◌}
use Rattle.std.specs.List.{range_with_len}
use Rattle.sheets.specs.Sheets.{block_ended, copies_from}
use Rattle.sheets.proofs.sheet.Sheet.end_block.Given as goal

abbrev pub invariant-loop-processor : goal.invariant-loop-processor
invariant-loop-processor l = copies_from l.rows.items l.self (range_with_len l.processor (l.processor-end - l.processor)) ≡ block_ended l.fn.self
