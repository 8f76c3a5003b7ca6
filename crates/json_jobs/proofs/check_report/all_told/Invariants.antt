use Rattle.std.proofs.Common.{◌≡◌, ◌++◌, drop, map}
use Rattle.serde_json.specs.View.{view}
use Rattle.json_texts.specs.Objects.{json_of}
use Rattle.json_jobs.specs.RunReports.{one_told}
use Rattle.json_jobs.proofs.check_report.all_told.Given as goal

abbrev pub invariant-loop-one : goal.invariant-loop-one
invariant-loop-one l =
    map view l.items.items ++ map json_of (map (one_told l.source) (drop l.one-index l.told))
    ≡ map json_of (map (one_told l.source) l.told)
