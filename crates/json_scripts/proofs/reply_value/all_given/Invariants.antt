use Rattle.std.proofs.Common.{◌≡◌, ◌++◌, drop, map}
use Rattle.serde_json.specs.View.{view}
use Rattle.json_texts.specs.Objects.{json_of}
use Rattle.json_scripts.specs.DebugData.{given_data}
use Rattle.json_scripts.proofs.reply_value.all_given.Given as goal

abbrev pub invariant-loop-word : goal.invariant-loop-word
invariant-loop-word l =
    map view l.items.items ++ map json_of (map (given_data l.layout) (drop l.word-index l.given))
    ≡ map json_of (map (given_data l.layout) l.given)
