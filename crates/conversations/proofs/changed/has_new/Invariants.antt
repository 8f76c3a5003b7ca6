use Rattle.std.proofs.Common.{◌≡◌}
use Rattle.std.specs.List.{list_any}
use Rattle.text_tokens.specs.Text.{lines_of}
use Rattle.conversations.specs.Changed.{is_new}
use Rattle.conversations.proofs.changed.has_new.Given as goal

abbrev pub invariant-loop-line : goal.invariant-loop-line
invariant-loop-line l = list_any (is_new l.old) (lines_of l.line-iterator.rest.now) ≡ list_any (is_new l.old) (lines_of l.new)
