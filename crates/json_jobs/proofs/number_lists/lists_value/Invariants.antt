use Rattle.std.proofs.Common.{◌≡◌, ◌++◌, drop, map}
use Rattle.serde_json.specs.View.{view}
use Rattle.json_texts.specs.Objects.{json_of, nums}
use Rattle.json_jobs.proofs.number_lists.lists_value.Given as goal

abbrev pub invariant-loop-image : goal.invariant-loop-image
invariant-loop-image l =
    map view l.items.items ++ map json_of (map nums (drop l.image-index l.images)) ≡ map json_of (map nums l.images)
