-- What was given of the runs that are explored.
use Rattle.std.specs.Prelude.{List}
use Rattle.machine.specs.declared.step.Step.{Step}
use Rattle.litmus_text.specs.TextLines.{TextLines}

pub record Given : Type 0 where
  -- the steps that were given, which every run begins with
  pub steps : List Step
  -- where the program's text says its instructions, if it is a text
  pub lines : TextLines
