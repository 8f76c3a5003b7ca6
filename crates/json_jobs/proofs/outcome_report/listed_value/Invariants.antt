use Rattle.std.proofs.Common.{◌≡◌, ◌++◌, drop, map}
use Rattle.serde_json.specs.View.{view}
use Rattle.json_texts.specs.Objects.{json_of}
use Rattle.json_jobs.specs.RunReports.{outcome_data}
use Rattle.json_jobs.proofs.outcome_report.listed_value.Given as goal

abbrev pub invariant-loop-outcome : goal.invariant-loop-outcome
invariant-loop-outcome l =
    map view l.items.items ++ map json_of (map (outcome_data l.processors) (drop l.outcome-index l.outcomes))
    ≡ map json_of (map (outcome_data l.processors) l.outcomes)
