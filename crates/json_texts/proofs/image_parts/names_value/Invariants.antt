use Rattle.std.proofs.Common.{◌≡◌, ◌++◌, drop, map}
use Rattle.serde_json.specs.View.{view}
use Rattle.commands.specs.OutcomeTexts.{names_of}
use Rattle.json_texts.specs.Objects.{json_of, word}
use Rattle.json_texts.proofs.image_parts.names_value.Given as goal

abbrev pub invariant-loop-line : goal.invariant-loop-line
invariant-loop-line l =
    map view l.items.items ++ map json_of (map word (names_of (drop l.line-index l.layout)))
    ≡ map json_of (map word (names_of l.layout))
