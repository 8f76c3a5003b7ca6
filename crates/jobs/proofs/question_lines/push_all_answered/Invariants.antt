use Rattle.std.proofs.Common.{◌≡◌, ◌++◌, drop}
use Rattle.std.specs.List.{flat_map}
use Rattle.jobs.specs.QuestionReports.{answered_text}
use Rattle.jobs.proofs.question_lines.push_all_answered.Given as goal

abbrev pub invariant-loop-one : goal.invariant-loop-one
invariant-loop-one l =
    l.report.items ++ flat_map (answered_text l.options l.start) (drop l.one-index l.answers)
    ≡ l.fn.report.items ++ flat_map (answered_text l.options l.start) l.answers
