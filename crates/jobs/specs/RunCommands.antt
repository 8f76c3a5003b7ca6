-- The commands that explore all runs.
use Rattle.std.specs.Prelude.{ℕ, true, Result, List, [], ◌∷◌}
use Rattle.explore.specs.declared.verdict.Verdict.{Verdict}
use Rattle.commands.specs.declared.fault.Fault.{Fault}
use Rattle.commands.specs.declared.fault.Stage.TheVariants as stages
use Rattle.commands.specs.declared.jobs.CheckOptions.{CheckOptions}
use Rattle.commands.specs.declared.jobs.OutcomesOptions.{OutcomesOptions}
use Rattle.commands.specs.Serving.{Command, Report}
use Rattle.commands.specs.Works.{MakesOneOf, MakesThen, Work}
use Rattle.jobs.specs.declared.start.Start.{Start}
use Rattle.jobs.specs.CheckReports.{MayReport}
use Rattle.jobs.specs.OutcomeReports.{outcomes_report}
use Rattle.jobs.specs.Starts.{check_start, exactly, outcomes_start, IsTold}

-- What may be reported of a verdict on all runs from a start; memory may run out while they are explored.
abbrev pub Explores : (Start → Verdict → Report → Type 0) → ℕ → Start → Result Report Fault → Type 0
Explores may states start made = MakesOneOf (IsTold may states start) (stages.Exploration ∷ []) made

-- a command that explores all runs: from where, what it may report of a verdict, and how many states are told apart at most
abbrev pub exploring : (List ℕ → List ℕ → Work Start) → (Start → Verdict → Report → Type 0) → ℕ → Command
exploring begins may states = record {
  reads_steps = true;
  May = λ both made. MakesThen (begins both.program both.steps) (Explores may states) made;
}

-- `check`, on the bytes of its sources
unfoldable pub check_command : CheckOptions → Command
check_command options = exploring (check_start options) (MayReport options) options.states

-- `outcomes`
unfoldable pub outcomes_command : OutcomesOptions → Command
outcomes_command options = exploring (outcomes_start options) (exactly (outcomes_report options)) options.states
