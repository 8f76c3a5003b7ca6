use Rattle.std.proofs.Common.{◌≡◌, ◌++◌, drop, map}
use Rattle.serde_json.specs.View.{view}
use Rattle.json_texts.specs.Objects.{json_of}
use Rattle.json_jobs.specs.RunReports.{never_in}
use Rattle.json_jobs.proofs.unreached.push_never_in.Given as goal

abbrev pub invariant-loop-place : goal.invariant-loop-place
invariant-loop-place l =
    map view l.items.items ++ map json_of (never_in l.source l.found l.p l.recovery l.place (drop l.place l.program))
    ≡ map view l.fn.items.items ++ map json_of (never_in l.source l.found l.p l.recovery 0 l.program)
