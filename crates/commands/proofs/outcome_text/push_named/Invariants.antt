use Rattle.std.proofs.Common.{◌≡◌, ◌++◌, drop, string_bytes}
use Rattle.commands.specs.OutcomeTexts.{named_texts, names_of}
use Rattle.commands.proofs.outcome_text.push_named.Given as goal

abbrev pub invariant-loop-line : goal.invariant-loop-line
invariant-loop-line g l =
    string_bytes l.text ++ named_texts g.W.Named.text_of (names_of (drop l.line-index l.layout)) l.rest
    ≡ string_bytes l.fn.text ++ named_texts g.W.Named.text_of (names_of l.layout) l.values
