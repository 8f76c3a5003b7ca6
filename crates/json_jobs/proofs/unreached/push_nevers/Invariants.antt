use Rattle.std.proofs.Common.{◌≡◌, ◌++◌, drop, map}
use Rattle.serde_json.specs.View.{view}
use Rattle.json_texts.specs.Objects.{json_of}
use Rattle.json_jobs.specs.RunReports.{nevers_from}
use Rattle.json_jobs.proofs.unreached.push_nevers.Given as goal

abbrev pub invariant-loop-p : goal.invariant-loop-p
invariant-loop-p l =
    map view l.items.items ++ map json_of (nevers_from l.source l.found l.crashes l.p (drop l.p l.processors))
    ≡ map view l.fn.items.items ++ map json_of (nevers_from l.source l.found l.crashes 0 l.processors)
