use Rattle.std.proofs.Common.{◌≡◌, ◌++◌, drop, string_bytes}
use Rattle.std.specs.List.{flat_map}
use Rattle.jobs.specs.OutcomeReports.{outcome_text}
use Rattle.jobs.proofs.outcome_text.push_outcomes.Given as goal

abbrev pub invariant-loop-outcome : goal.invariant-loop-outcome
invariant-loop-outcome l =
    string_bytes l.text ++ flat_map (outcome_text l.layout l.processors) (drop l.outcome-index l.outcomes)
    ≡ string_bytes l.fn.text ++ flat_map (outcome_text l.layout l.processors) l.outcomes
