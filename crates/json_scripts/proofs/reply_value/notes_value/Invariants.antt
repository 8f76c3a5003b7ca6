use Rattle.std.proofs.Common.{◌≡◌, ◌++◌, drop, map}
use Rattle.serde_json.specs.View.{view}
use Rattle.json_texts.specs.Objects.{json_of}
use Rattle.json_scripts.specs.DebugData.{note_data}
use Rattle.json_scripts.proofs.reply_value.notes_value.Given as goal

abbrev pub invariant-loop-note : goal.invariant-loop-note
invariant-loop-note l =
    map view l.items.items ++ map json_of (map (note_data l.layout) (drop l.note-index l.notes))
    ≡ map json_of (map (note_data l.layout) l.notes)
