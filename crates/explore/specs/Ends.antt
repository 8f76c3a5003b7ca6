-- Ends: states in which nothing is left to do but to crash.
use Rattle.std.specs.Prelude.{◌≡◌, Bool, true, false, ◌&&◌, not, ◌==◌, Option, Ok, List, [], length}
use Rattle.std.specs.List.{list_all}
use Rattle.std.specs.Option.{option_map_or}
use Rattle.machine.specs.declared.step.Seen.{Seen}
use Rattle.machine.specs.declared.step.Step.{Step}
use Rattle.machine.specs.declared.step.Step.TheVariants.{Crash}
use Rattle.machine.specs.Processors.{halted}
use Rattle.machine.specs.State.{Processor, State}
use Rattle.machine.specs.Steps.{step_of}
use Rattle.conditions.specs.Formulas.{Formula}
use Rattle.images.specs.Truth.{holds_in}
use Rattle.explore.specs.Reachable.{IsReachable}

-- whether a processor has nothing left to do: it is trapped or at its program's end, and its store buffer is empty
abbrev pub has_ended : Processor → Bool
has_ended c = halted c && (length c.buffer == 0)

-- Each processor has nothing left to do, and nothing is pending. (So no step but a crash is accepted: a law.)
pub record IsEnd (t : State) : Type 0 where
  pub processors : list_all has_ended t.processors ≡ true
  pub pending : t.memory.pending ≡ []

-- A crash alone is accepted.
abbrev pub CrashesAlone : State → Type 0
CrashesAlone s = (step : Step) (seen : Seen) (t : State) → step_of s step ≡ Ok (seen, t) → step ≡ Crash

-- whether a processor runs its recovery program, or its main program
abbrev pub runs_as : Bool → Processor → Bool
runs_as true c = c.recovering
runs_as false c = not c.recovering

-- Whether all processors run their recovery programs, or all their main programs. (They run the former after a crash, and the latter before the first: a law.)
abbrev pub all_run_as : Bool → List Processor → Bool
all_run_as recovered cpus = list_all (runs_as recovered) cpus

-- An end that a run reaches: after a crash, or before the first one.
pub record IsEndOf (crashes recovered : Bool) (start t : State) : Type 0 where
  pub reached : IsReachable crashes start t
  pub end : IsEnd t
  pub mode : all_run_as recovered t.processors ≡ true

-- whether a condition is true of a state
abbrev pub holds_at : Formula → State → Bool
holds_at condition t = holds_in t condition

-- whether a condition, if one is asked, is true of a state
abbrev pub is_met : Option Formula → State → Bool
is_met asked t = option_map_or (λ condition. holds_at condition t) asked true

-- A condition is true at each such end.
abbrev pub IsTrueAtEnds : Bool → Bool → Formula → State → Type 0
IsTrueAtEnds crashes recovered condition start = (t : State) → IsEndOf crashes recovered start t → holds_at condition t ≡ true
