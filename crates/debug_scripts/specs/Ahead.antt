-- The steps of a script that are still to be made.
use Rattle.std.specs.Prelude.{List, [], ◌∷◌, ◌++◌, drop}
use Rattle.machine.specs.declared.step.Step.{Step}
use Rattle.debugger.specs.declared.halt.Halt.{Halt}
use Rattle.debugger.specs.Marks.{tried}

-- the steps that the last go or continue left, and those that were gathered since
pub record Ahead : Type 0 where
  pub rest : List Step
  pub gathered : List Step

abbrev pub steps_ahead : List Step → List Step → Ahead
steps_ahead rest gathered = record { rest = rest; gathered = gathered }

-- all of them, in the order in which they are made
abbrev pub all_ahead : Ahead → List Step
all_ahead a = a.rest ++ a.gathered

-- one step more is gathered
abbrev pub with_gathered : Ahead → Step → Ahead
with_gathered a step = steps_ahead a.rest (a.gathered ++ step ∷ [])

-- what is left of the steps ahead once they halted: those after the last that was made, or refused
abbrev pub left_ahead : Ahead → Halt → Ahead
left_ahead a halt = steps_ahead (drop (tried (all_ahead a) halt) (all_ahead a)) []
