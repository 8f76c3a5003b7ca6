-- What an exploration of all runs begins with, and what may be answered of it.
use Rattle.std.specs.Prelude.{◌≡◌, ℕ, Bool, false, not, None, option_copied, Result, Ok, Err, List}
use Rattle.isa.specs.Objects.{Object}
use Rattle.machine.specs.Objects.{opening}
use Rattle.machine.specs.State.{State}
use Rattle.machine.specs.Steps.{run_of}
use Rattle.explore.specs.declared.fault.ExploreFault.{ExploreFault}
use Rattle.explore.specs.declared.fault.ExploreFault.TheVariants as runs
use Rattle.explore.specs.declared.question.Question.{Question}
use Rattle.explore.specs.declared.verdict.Verdict.{Verdict}
use Rattle.explore.specs.Questions.{IsVerdict, IsWorn}
use Rattle.explore.specs.Sound.{IsSound}
use Rattle.commands.specs.declared.fault.Fault.{Fault}
use Rattle.commands.specs.declared.fault.Fault.TheVariants as faults
use Rattle.commands.specs.declared.fault.Refused.TheVariants as refusals
use Rattle.commands.specs.declared.fault.Stage.TheVariants as stages
use Rattle.commands.specs.declared.jobs.CheckOptions.{CheckOptions}
use Rattle.commands.specs.declared.jobs.OutcomesOptions.{OutcomesOptions}
use Rattle.commands.specs.Faults.{missing}
use Rattle.commands.specs.Programs.{asked_condition, lined_work, list_work, questioned_work, state_work}
use Rattle.commands.specs.Serving.{Report}
use Rattle.commands.specs.Works.{◌>>=◌, Work, done}
use Rattle.jobs.specs.Given.{Given}
use Rattle.litmus_text.specs.TextLines.{TextLines}
use Rattle.questions.specs.Questions.{Questioned}
use Rattle.jobs.specs.declared.start.Start.{Start}

-- ---- what is asked

-- `check`: its conditions, read in their order, and whether it lists images; runs crash, unless those that do not crash alone are asked about
abbrev pub check_question : CheckOptions → Questioned → Work Question
check_question options program = do
  all ← asked_condition program (option_copied options.all)
  ends ← asked_condition program (option_copied options.ends)
  recovered ← asked_condition program (option_copied options.recovered)
  done (record { crashes = not options.before_crash; all = all; ends = ends; recovered = recovered; images = options.images })

-- no condition, and no images; runs crash, or do not
abbrev pub no_condition : Bool → Question
no_condition crashes = record { crashes = crashes; all = None; ends = None; recovered = None; images = false }

-- ---- the beginning

-- what is given by the lines of a program and by these bytes of steps
abbrev pub given_work : TextLines → List ℕ → Work Given
given_work lines steps = do
  list ← list_work steps
  done (record { steps = list; lines = lines })

-- a program, what is asked, what was given, and its machine after the given steps
abbrev pub start_on : Object → Question → Given → Work Start
start_on object question given = do
  machine ← state_work (run_of given.steps (opening object))
  done (record { object = object; question = question; machine = machine; given = given })

-- what `check` is asked, and what it is given
abbrev pub check_asked : CheckOptions → Questioned → List ℕ → Work (Question × Given)
check_asked options program steps = do
  question ← check_question options program
  given ← given_work program.lined.lines steps
  done (question, given)

-- what `check` begins with
abbrev pub check_start : CheckOptions → List ℕ → List ℕ → Work Start
check_start options program steps = do
  read ← questioned_work program
  asked ← check_asked options read steps
  start_on read.lined.object asked.0 asked.1

-- what `outcomes` begins with: runs crash where ends after a crash are asked for
abbrev pub outcomes_start : OutcomesOptions → List ℕ → List ℕ → Work Start
outcomes_start options program steps = do
  lined ← lined_work program
  given ← given_work lined.lines steps
  start_on lined.object (no_condition options.recovered) given

-- A machine from which runs may start: a loaded machine after some steps, which leave it turns.
pub record IsReady (machine : State) : Type 0 where
  pub sound : IsSound machine
  pub fresh : IsWorn machine → ⊥

-- ---- the answer

-- why it is not told of all runs
abbrev pub fault_of : ExploreFault → Fault
fault_of runs.TooManyStates = faults.Refused refusals.TooManyStates
fault_of runs.NoRoom = faults.Refused refusals.NoRoom
fault_of runs.TooMany = faults.Refused refusals.TooManyInRun
fault_of runs.NoMemory = missing stages.Exploration

-- the one report that a verdict has
abbrev pub exactly : (Start → Verdict → Report) → Start → Verdict → Report → Type 0
exactly report start verdict made = made ≡ report start verdict

-- What is answered of a verdict: a report that may be made of it, or why there is none.
abbrev pub IsToldOf : (Start → Verdict → Report → Type 0) → Start → Result Verdict ExploreFault → Result Report Fault → Type 0
IsToldOf may start (Ok verdict) (Ok report) = may start verdict report
IsToldOf may start (Ok verdict) (Err fault) = ⊥
IsToldOf may start (Err fault) answer = answer ≡ Err (fault_of fault)

-- The answer is of a verdict on all runs from the machine, of which at most so many states are told apart: any verdict that is right. Runs may
-- start from the machine.
abbrev pub IsTold : (Start → Verdict → Report → Type 0) → ℕ → Start → Result Report Fault → Type 0
IsTold may states start answer =
    IsReady start.machine × ((verdict : Result Verdict ExploreFault) × IsVerdict start.question start.machine states verdict × IsToldOf may start verdict answer)
