use Rattle.std.proofs.Common.{◌≡◌, ◌++◌, drop, string_bytes}
use Rattle.commands.specs.OutcomeTexts.{named_texts}
use Rattle.commands.proofs.outcome_text.push_line.Given as goal

abbrev pub invariant-loop-place : goal.invariant-loop-place
invariant-loop-place g l =
    string_bytes l.text ++ named_texts g.W.Named.text_of (drop l.place l.names) (drop l.place l.values)
    ≡ string_bytes l.fn.text ++ named_texts g.W.Named.text_of l.names l.values
