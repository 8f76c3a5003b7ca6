use Rattle.std.proofs.Common.{◌≡◌, ◌++◌, drop, map}
use Rattle.serde_json.specs.View.{view}
use Rattle.json_texts.specs.Objects.{json_of}
use Rattle.json_jobs.specs.TallyData.{pairs_data}
use Rattle.json_jobs.proofs.tally_value.push_line.Given as goal

abbrev pub invariant-loop-place : goal.invariant-loop-place
invariant-loop-place l =
    map view l.items.items ++ map json_of (pairs_data (drop l.place l.names) (drop l.place l.pairs))
    ≡ map view l.fn.items.items ++ map json_of (pairs_data l.names l.pairs)
