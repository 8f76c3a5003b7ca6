use Rattle.std.proofs.Common.{◌≡◌, ◌++◌, drop, map}
use Rattle.serde_json.specs.View.{view}
use Rattle.json_texts.specs.Objects.{json_of}
use Rattle.json_texts.specs.StateData.{lines_from}
use Rattle.json_texts.proofs.words.words_value.Given as goal

abbrev pub invariant-loop-number : goal.invariant-loop-number
invariant-loop-number l =
    map view l.words.items ++ map json_of (lines_from l.view.memory l.number (drop l.number l.layout))
    ≡ map json_of (lines_from l.view.memory 0 l.layout)
