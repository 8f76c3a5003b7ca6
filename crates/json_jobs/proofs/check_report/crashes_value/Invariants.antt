use Rattle.std.proofs.Common.{◌≡◌, ◌++◌, drop, map}
use Rattle.serde_json.specs.View.{view}
use Rattle.json_texts.specs.Objects.{json_of}
use Rattle.json_jobs.specs.RunReports.{crash_data}
use Rattle.json_jobs.proofs.check_report.crashes_value.Given as goal

abbrev pub invariant-loop-crash : goal.invariant-loop-crash
invariant-loop-crash l =
    map view l.items.items ++ map json_of (map (crash_data l.start) (drop l.crash-index l.crashes))
    ≡ map json_of (map (crash_data l.start) l.crashes)
