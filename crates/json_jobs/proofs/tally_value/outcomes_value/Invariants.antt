use Rattle.std.proofs.Common.{◌≡◌, ◌++◌, drop, map}
use Rattle.serde_json.specs.View.{view}
use Rattle.json_texts.specs.Objects.{json_of}
use Rattle.json_jobs.specs.TallyData.{outcome_data}
use Rattle.json_jobs.proofs.tally_value.outcomes_value.Given as goal

abbrev pub invariant-loop-place : goal.invariant-loop-place
invariant-loop-place l =
    map view l.items.items ++ map json_of (map (outcome_data l.layout) (drop l.place l.counted))
    ≡ map json_of (map (outcome_data l.layout) l.counted)
