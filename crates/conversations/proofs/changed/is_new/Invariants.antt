use Rattle.std.proofs.Common.{◌≡◌}
use Rattle.std.specs.Prelude.{bytes_eq}
use Rattle.std.specs.List.{list_any}
use Rattle.text_tokens.specs.Text.{lines_of}
use Rattle.conversations.proofs.changed.is_new.Given as goal

abbrev pub invariant-loop-own : goal.invariant-loop-own
invariant-loop-own l = list_any (bytes_eq l.line) (lines_of l.own-iterator.rest.now) ≡ list_any (bytes_eq l.line) (lines_of l.text)
