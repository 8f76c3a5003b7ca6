use Rattle.std.proofs.Common.{◌≡◌, ◌++◌, drop, string_bytes}
use Rattle.commands.specs.ImageTexts.{values_text}
use Rattle.commands.proofs.image_text.push_values.Given as goal

abbrev pub invariant-loop-value : goal.invariant-loop-value
invariant-loop-value l = string_bytes l.text ++ values_text (drop l.value-index l.values) ≡ string_bytes l.fn.text ++ values_text l.values
