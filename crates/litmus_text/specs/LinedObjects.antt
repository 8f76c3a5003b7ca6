-- What a litmus text says, and the lines on which it says it.
use Rattle.std.specs.Prelude.{ℕ, Some, Result, Ok, List}
use Rattle.outcomes.specs.Outcomes.{◌>>=◌}
use Rattle.litmus_text.specs.declared.fault.TextFault.{TextFault}
use Rattle.litmus_text.specs.declared.text_lines.LinedObject.{LinedObject}
use Rattle.litmus_text.specs.SourceLines.{lines_found}
use Rattle.litmus_text.specs.Texts.{litmus_of}

-- the value of a text and the lines of its instructions, or its fault
abbrev pub lined_of : List ℕ → Result LinedObject TextFault
lined_of text = do
  object ← litmus_of text
  Ok (record { object = object; lines = Some (lines_found text) })
