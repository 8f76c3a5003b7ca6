use Rattle.std.proofs.Common.{◌≡◌, ◌++◌, drop, string_bytes}
use Rattle.commands.specs.OutcomeTexts.{named_texts, names_of}
use Rattle.jobs.specs.QuestionReports.{bound_text}
use Rattle.jobs.proofs.question_lines.push_all_bound.Given as goal

abbrev pub invariant-loop-line : goal.invariant-loop-line
invariant-loop-line l =
    string_bytes l.text ++ named_texts (bound_text l.layout) (names_of (drop l.line-index l.layout)) l.rest
    ≡ string_bytes l.fn.text ++ named_texts (bound_text l.layout) (names_of l.layout) l.values
