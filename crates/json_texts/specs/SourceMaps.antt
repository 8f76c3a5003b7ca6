-- What a report as JSON says of a program beside its state: how its words are named, and on which lines its instructions stand.
use Rattle.lines_layout.specs.Layouts.{NamedLines}
use Rattle.litmus_text.specs.TextLines.{TextLines}

-- the names of the words, and the lines of the instructions
pub record SourceMap : Type 0 where
  pub names : NamedLines
  pub lines : TextLines
