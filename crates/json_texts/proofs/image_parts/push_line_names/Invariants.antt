use Rattle.std.proofs.Common.{◌≡◌, ◌++◌, drop, map}
use Rattle.serde_json.specs.View.{view}
use Rattle.json_texts.specs.Objects.{json_of, word}
use Rattle.json_texts.proofs.image_parts.push_line_names.Given as goal

abbrev pub invariant-loop-name : goal.invariant-loop-name
invariant-loop-name l =
    map view l.items.items ++ map json_of (map word (drop l.name-index l.names))
    ≡ map view l.fn.items.items ++ map json_of (map word l.names)
