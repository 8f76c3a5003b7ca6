use Rattle.std.proofs.Common.{◌≡◌, map, take}
use Rattle.litmus_text.specs.TextLines.{line_numbered}
use Rattle.litmus_text.proofs.text_lines.numbered.Given as goal

abbrev pub invariant-loop-line : goal.invariant-loop-line
invariant-loop-line l = l.found.items ≡ map (line_numbered l.numbers) (take l.line-index l.lines)
