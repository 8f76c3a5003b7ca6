use Rattle.std.proofs.Common.{◌≡◌, ◌++◌, drop, string_bytes}
use Rattle.commands.specs.ImageTexts.{line_names_text}
use Rattle.commands.proofs.image_text.push_line_names.Given as goal

abbrev pub invariant-loop-name : goal.invariant-loop-name
invariant-loop-name l = string_bytes l.text ++ line_names_text (drop l.name-index l.line) ≡ string_bytes l.fn.text ++ line_names_text l.line
