use Rattle.std.proofs.Common.{◌≡◌, ◌++◌, drop, map}
use Rattle.serde_json.specs.View.{view}
use Rattle.json_texts.specs.Objects.{json_of, num}
use Rattle.json_texts.proofs.lists.places_value.Given as goal

abbrev pub invariant-loop-place : goal.invariant-loop-place
invariant-loop-place l =
    map view l.items.items ++ map json_of (map num (drop l.place-index l.places)) ≡ map json_of (map num l.places)
