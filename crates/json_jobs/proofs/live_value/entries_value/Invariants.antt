use Rattle.std.proofs.Common.{◌≡◌, ◌++◌, drop, map}
use Rattle.serde_json.specs.View.{view}
use Rattle.json_texts.specs.Objects.{json_of}
use Rattle.json_jobs.specs.LiveData.{entries_from}
use Rattle.json_jobs.proofs.live_value.entries_value.Given as goal

abbrev pub invariant-loop-at : goal.invariant-loop-at
invariant-loop-at l =
    map view l.items.items ++ map json_of (entries_from l.layout l.at (drop l.at l.journal))
    ≡ map json_of (entries_from l.layout 0 l.journal)
