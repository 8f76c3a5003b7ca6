use Rattle.std.proofs.Common.{◌≡◌, ◌++◌, drop}
use Rattle.explore.specs.Codes.{coded}
use Rattle.explore.proofs.codes.push_numbers.Given as goal

abbrev pub invariant-loop-number : goal.invariant-loop-number
invariant-loop-number l = l.bytes.items ++ coded (drop l.number-index l.numbers) ≡ l.fn.bytes.items ++ coded l.numbers
