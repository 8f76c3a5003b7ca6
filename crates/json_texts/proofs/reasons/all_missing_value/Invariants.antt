use Rattle.std.proofs.Common.{◌≡◌, ◌++◌, drop, map}
use Rattle.serde_json.specs.View.{view}
use Rattle.json_texts.specs.Objects.{json_of}
use Rattle.json_texts.specs.ReasonData.{missing_data}
use Rattle.json_texts.proofs.reasons.all_missing_value.Given as goal

abbrev pub invariant-loop-write : goal.invariant-loop-write
invariant-loop-write l =
    map view l.items.items ++ map json_of (map (missing_data l.source) (drop l.write-index l.missing))
    ≡ map json_of (map (missing_data l.source) l.missing)
