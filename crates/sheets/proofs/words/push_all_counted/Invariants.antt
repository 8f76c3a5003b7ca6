use Rattle.std.proofs.Common.{◌≡◌, ◌-◌}
use Rattle.std.specs.List.{range_with_len}
use Rattle.sheets.specs.Words.{counted_from}
use Rattle.sheets.proofs.words.push_all_counted.Given as goal

abbrev pub invariant-loop-number : goal.invariant-loop-number
invariant-loop-number l = counted_from l.name l.text.items (range_with_len l.number (l.count - l.number)) ≡ counted_from l.name l.fn.text.items (range_with_len 0 l.count)
