use Rattle.std.proofs.Common.{◌≡◌, ◌++◌, drop}
use Rattle.explore.specs.Codes.{coded}
use Rattle.explore.specs.Keys.{lines_key}
use Rattle.explore.proofs.sets_key.push_lines.Given as goal

abbrev pub invariant-loop-line : goal.invariant-loop-line
invariant-loop-line l = l.bytes.items ++ coded (lines_key l.pending.memory l.line (drop l.line l.pending.shape)) ≡ l.fn.bytes.items ++ coded (lines_key l.pending.memory 0 l.pending.shape)
