use Rattle.std.proofs.Common.{◌≡◌, ◌++◌, ◌-◌, string_bytes}
use Rattle.jobs.specs.OutcomeReports.{numbers_text}
use Rattle.jobs.proofs.outcome_text.push_numbers.Given as goal

abbrev pub invariant-loop-p : goal.invariant-loop-p
invariant-loop-p l =
    string_bytes l.text ++ numbers_text l.layout (l.processors - l.p) l.p l.rest ≡ string_bytes l.fn.text ++ numbers_text l.layout l.processors 0 l.numbers
