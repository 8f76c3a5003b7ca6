use Rattle.std.proofs.Common.{◌≡◌, ◌++◌, ◌+◌, ◌*◌, drop, map}
use Rattle.serde_json.specs.View.{view}
use Rattle.json_texts.specs.Objects.{json_of}
use Rattle.json_texts.specs.StateData.{words_from}
use Rattle.json_texts.proofs.words.push_line_words.Given as goal

abbrev pub invariant-loop-place : goal.invariant-loop-place
invariant-loop-place l =
    map view l.words.items ++ map json_of (words_from l.view.memory (8 * l.number + l.place) (drop l.place l.names))
    ≡ map view l.fn.words.items ++ map json_of (words_from l.view.memory (8 * l.number) l.names)
