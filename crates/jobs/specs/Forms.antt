-- A command finds something, and a form prints it.
use Rattle.std.specs.Prelude.{ℕ, Ok, List}
use Rattle.commands.specs.declared.fault.Stage.{Stage}
use Rattle.jobs.specs.declared.form.Answer.{Answer}
use Rattle.commands.specs.declared.status.Status.{Status}
use Rattle.commands.specs.Serving.{Report}
use Rattle.commands.specs.Works.{◌>>=◌, Work, work}

-- what is found, with the status for it
abbrev pub answer_of : {A : Type 0} → (A → Status) → A → Answer A
answer_of status found = record { found = found; status = status found }

-- an answer in a form: the form's text of what is found, with its status
abbrev pub printed : {A : Type 0} → (A → List ℕ) → Answer A → Report
printed text answer = record { text = text answer.found; status = answer.status }

-- A command finds, a form prints. What is missing for the report is missing at this stage.
abbrev pub command_work : {A : Type 0} → Work (Answer A) → Stage → (A → List ℕ) → Work Report
command_work find stage text = do
  answer ← find
  work stage (Ok (printed text answer))
