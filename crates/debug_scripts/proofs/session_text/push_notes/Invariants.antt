use Rattle.std.proofs.Common.{◌≡◌, ◌++◌, take, string_bytes}
use Rattle.std.specs.List.{flat_map}
use Rattle.debug_scripts.specs.SessionTexts.{note_line}
use Rattle.debug_scripts.proofs.session_text.push_notes.Given as goal

abbrev pub invariant-loop-note : goal.invariant-loop-note
invariant-loop-note l = string_bytes l.text ≡ string_bytes l.fn.text ++ flat_map (note_line l.layout) (take l.note-index l.notes)
