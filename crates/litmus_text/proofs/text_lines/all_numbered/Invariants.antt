use Rattle.std.proofs.Common.{◌≡◌, map, take}
use Rattle.litmus_text.specs.TextLines.{programs_numbered}
use Rattle.litmus_text.proofs.text_lines.all_numbered.Given as goal

abbrev pub invariant-loop-lines : goal.invariant-loop-lines
invariant-loop-lines l = l.found.items ≡ map (programs_numbered l.numbers) (take l.lines-index l.processors)
