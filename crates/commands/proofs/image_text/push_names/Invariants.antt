use Rattle.std.proofs.Common.{◌≡◌, ◌++◌, drop, string_bytes}
use Rattle.commands.specs.ImageTexts.{names_text}
use Rattle.commands.proofs.image_text.push_names.Given as goal

abbrev pub invariant-loop-line : goal.invariant-loop-line
invariant-loop-line l = string_bytes l.text ++ names_text (drop l.line-index l.layout) ≡ string_bytes l.fn.text ++ names_text l.layout
