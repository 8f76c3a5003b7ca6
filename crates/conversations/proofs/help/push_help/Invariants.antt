use Rattle.std.proofs.Common.{◌≡◌, ◌++◌, drop, string_bytes}
use Rattle.std.specs.List.{flat_map}
use Rattle.conversations.specs.HelpTexts.{help_text, row_line}
use Rattle.conversations.proofs.help.push_help.Given as goal

abbrev pub invariant-loop-word : goal.invariant-loop-word
invariant-loop-word l = string_bytes l.text ++ flat_map row_line (drop l.word-index l.word-items) ≡ string_bytes l.fn.text ++ help_text
