use Rattle.std.proofs.Common.{◌≡◌, ◌++◌, drop, map}
use Rattle.serde_json.specs.View.{view}
use Rattle.json_texts.specs.Objects.{json_of, num}
use Rattle.json_texts.proofs.lists.numbers_value.Given as goal

abbrev pub invariant-loop-number : goal.invariant-loop-number
invariant-loop-number l =
    map view l.items.items ++ map json_of (map num (drop l.number-index l.numbers))
    ≡ map json_of (map num l.numbers)
