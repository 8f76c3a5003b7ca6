use Rattle.std.proofs.Common.{◌≡◌, ◌++◌, drop, map}
use Rattle.serde_json.specs.View.{view}
use Rattle.json_texts.specs.Objects.{json_of}
use Rattle.mend_jobs.specs.MendData.{open_data}
use Rattle.mend_jobs.proofs.mend_value.opens_value.Given as goal

abbrev pub invariant-loop-one : goal.invariant-loop-one
invariant-loop-one l =
    map view l.items.items ++ map json_of (map (open_data l.source l.made) (drop l.one-index l.untold))
    ≡ map json_of (map (open_data l.source l.made) l.untold)
