use Rattle.std.proofs.Common.{◌≡◌, ◌++◌, string_bytes}
use Rattle.std.specs.List.{flat_map}
use Rattle.text_tokens.specs.Text.{lines_of}
use Rattle.conversations.specs.Changed.{line_if_new, new_lines}
use Rattle.conversations.proofs.changed.push_new_lines.Given as goal

abbrev pub invariant-loop-line : goal.invariant-loop-line
invariant-loop-line l = string_bytes l.text ++ flat_map (line_if_new l.old) (lines_of l.line-iterator.rest.now) ≡ string_bytes l.fn.text ++ new_lines l.old l.new
