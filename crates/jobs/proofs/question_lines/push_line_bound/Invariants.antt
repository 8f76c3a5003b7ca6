use Rattle.std.proofs.Common.{◌≡◌, ◌++◌, drop, string_bytes}
use Rattle.commands.specs.OutcomeTexts.{named_texts}
use Rattle.jobs.specs.QuestionReports.{bound_text}
use Rattle.jobs.proofs.question_lines.push_line_bound.Given as goal

abbrev pub invariant-loop-place : goal.invariant-loop-place
invariant-loop-place l =
    string_bytes l.text ++ named_texts (bound_text l.layout) (drop l.place l.names) (drop l.place l.values)
    ≡ string_bytes l.fn.text ++ named_texts (bound_text l.layout) l.names l.values
