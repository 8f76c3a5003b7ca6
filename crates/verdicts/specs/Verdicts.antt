-- What is told of all runs of a program, and what breaks what is asked of them.
use Rattle.std.specs.Prelude.{◌≡◌, ◌≢◌, ℕ, Bool, true, false, Some, Result, Err, List}
use Rattle.isa.specs.Objects.{Object}
use Rattle.machine.specs.declared.step.Step.{Step}
use Rattle.machine.specs.Objects.{opening}
use Rattle.machine.specs.State.{State}
use Rattle.machine.specs.Steps.{run_of}
use Rattle.conditions.specs.Formulas.{Formula}
use Rattle.images.specs.Images.{IsImage}
use Rattle.images.specs.Truth.{holds_on}
use Rattle.explore.specs.declared.fault.ExploreFault.{ExploreFault}
use Rattle.explore.specs.declared.fault.ExploreFault.TheVariants.{NoMemory}
use Rattle.explore.specs.declared.question.Question.{Question}
use Rattle.explore.specs.declared.verdict.Asked.{Asked}
use Rattle.explore.specs.declared.verdict.Asked.TheVariants.{All, Ends, Recovered}
use Rattle.explore.specs.declared.verdict.Failure.{Failure}
use Rattle.explore.specs.declared.verdict.Verdict.{Verdict}
use Rattle.explore.specs.Questions.{FailsBy, IsAnswered, IsFalseEnd, IsVerdict}
use Rattle.explore.specs.Reachable.{IsRun}

-- ---- what is told

-- What is told of all runs of a program, of which at most so many states are told apart: a verdict that is right, or why there is none. Want of
-- memory is no answer.
abbrev pub IsTold : Question → ℕ → Object → Result Verdict ExploreFault → Type 0
IsTold question limit object told = IsVerdict question (opening object) limit told × (told ≢ Err NoMemory)

-- Why it is not told of a program.
abbrev pub IsUntold : Question → ℕ → Object → ExploreFault → Type 0
IsUntold question limit object fault = IsTold question limit object (Err fault)

-- Each condition that is asked is true of all that runs of the program reach.
abbrev pub IsKeptBy : Question → Object → Type 0
IsKeptBy question object = IsAnswered question (opening object)

-- The run of a failure makes its condition false.
abbrev pub IsFailureOf : Question → Object → Failure → Type 0
IsFailureOf question object failure = FailsBy failure.asked question (opening object) failure.run failure.values

-- ---- what breaks a question

-- A run leads from a program's first state to one in which a crash may leave this image, and it makes the condition false.
pub record HasFalseImage (crashes : Bool) (condition : Formula) (start : State) (run : List Step) (image : List ℕ) : Type 0 where
  pub is_run : IsRun crashes run start (run_of run start).state
  pub image_there : IsImage (run_of run start).state image
  pub false_there : holds_on (run_of run start).state condition image ≡ false

-- A run of a program makes a condition false: of the images of the state to which it leads one does, or it leads to an end that does.
abbrev pub MakesFalse : Asked → Question → Object → List Step → List ℕ → Type 0
MakesFalse All question object run values =
    (condition : Formula) × (question.all ≡ Some condition) × HasFalseImage question.crashes condition (opening object) run values
MakesFalse Ends question object run values =
    (condition : Formula) × (question.ends ≡ Some condition) × IsFalseEnd question.crashes false condition (opening object) run values
MakesFalse Recovered question object run values =
    (condition : Formula) × (question.recovered ≡ Some condition) × IsFalseEnd question.crashes true condition (opening object) run values

-- Some run of a program breaks what is asked.
abbrev pub IsBrokenBy : Question → Object → Type 0
IsBrokenBy question object = (asked : Asked) × (run : List Step) × (values : List ℕ) × MakesFalse asked question object run values
