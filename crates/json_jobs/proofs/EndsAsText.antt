-- The commands that make one report end the same as JSON and as text.
use Rattle.std.proofs.Common.{◌≡◌, ℕ, Option, Result, Ok, Err, List, ◌∷◌, ◌++◌, length, ap, refl, subst, sym}
use Rattle.std.specs.Prelude.{Contains}
use Rattle.isa.specs.Objects.{Object}
use Rattle.machine.specs.declared.step.Step.{Step}
use Rattle.machine.specs.Objects.{opening}
use Rattle.machine.specs.State.{State}
use Rattle.image_reasons.specs.Origins.{origins_of}
use Rattle.machine.specs.Steps.{End, run_of}
use Rattle.commands.specs.declared.fault.Refused.{Refused}
use Rattle.commands.specs.declared.fault.Stage.{Stage}
use Rattle.commands.specs.declared.fault.Stage.TheVariants as stages
use Rattle.commands.specs.declared.jobs.NextOptions.{NextOptions}
use Rattle.commands.specs.declared.jobs.TraceOptions.{TraceOptions}
use Rattle.jobs.specs.declared.form.Answer.{Answer}
use Rattle.jobs.specs.Forms.{answer_of, command_work, printed}
use Rattle.commands.specs.StateTexts.{run_text}
use Rattle.commands.specs.Programs.{lined_work, lines_in_file, list_of, list_work, program_of, program_stage, program_work, questioned_work, questions_in_file, scope_in_file, state_work}
use Rattle.commands.specs.Serving.{Report}
use Rattle.commands.specs.Works.{◌>>=◌, and_then, done, reached_after, told_after, Work, work}
use Rattle.litmus_text.specs.TextLines.{TextLines}
use Rattle.litmus_text.specs.declared.text_lines.LinedObject.{LinedObject}
use Rattle.questions.specs.Questions.{NamedQuestion, Questioned}
use Rattle.questions.specs.Scopes.{Scope}
use Rattle.jobs.specs.Reports as texts
use Rattle.json_jobs.specs.JsonReports as values
use Rattle.json_jobs.specs.EndReports as end_values
use Rattle.json_jobs.specs.NextReports as next_values
use Rattle.json_jobs.specs.StepReports as step_values
use Rattle.json_jobs.specs.SameStatuses.{EndAlike, status_told}

-- ---- what is done on what was read

-- two works that end alike, and reach the very same stages
abbrev pub AreAlike : Work Report → Work Report → Type 0
AreAlike json text = (status_told json.told ≡ status_told text.told) × (json.reached ≡ text.reached)

-- the same of what comes behind a part that told this
abbrev RestsAlike : {A : Type 0} → Result A Refused → (A → Work Report) → (A → Work Report) → Type 0
RestsAlike made json text = (status_told (told_after made json) ≡ status_told (told_after made text)) × (reached_after made json ≡ reached_after made text)

rests_alike : {A : Type 0} (made : Result A Refused) (json text : A → Work Report) → ((a : A) → AreAlike (json a) (text a)) → RestsAlike made json text
rests_alike (Ok a) json text alike = alike a
rests_alike (Err refused) json text alike = (refl, refl)

-- after the same part
pub then_alike : {A : Type 0} (first : Work A) (json text : A → Work Report) → ((a : A) → AreAlike (json a) (text a)) → AreAlike (and_then first json) (and_then first text)
unfolding and_then
then_alike first json text alike =
    let rests = rests_alike first.told json text alike in
    (rests.0, ap (λ (later : List Stage). first.reached ++ later) rests.1)

-- ---- each command on a program

-- what is found is printed in one form or in another
pub printed_alike : {A : Type 0} (find : Work (Answer A)) (stage : Stage) (json text : A → List ℕ)
    → AreAlike (command_work find stage json) (command_work find stage text)
printed_alike {A} find stage json text =
    then_alike find (λ (answer : Answer A). work stage (Ok (printed json answer))) (λ (answer : Answer A). work stage (Ok (printed text answer))) (λ answer. (refl, refl))

run_told : (object : Object) (lines : TextLines) (said : Result (List Step) Refused)
    → AreAlike (work stages.Steps said >>= λ (list : List Step). work stages.Machine (Ok (run_of list (opening object))) >>= λ (end : End). work stages.Machine (Ok (end_values.run_from (values.source_of object lines) (origins_of object list) end)))
    (command_work (work stages.Steps said >>= λ (list : List Step). work stages.Machine (Ok (answer_of texts.end_status (run_of list (opening object))))) stages.Machine (run_text object.layout))
unfolding and_then
run_told object lines (Ok list) = (refl, refl)
run_told object lines (Err refused) = (refl, refl)

pub run_alike : (object : Object) (lines : TextLines) (steps : List ℕ) → AreAlike (end_values.run_on object lines steps) (texts.run_on object steps)
run_alike object lines steps = run_told object lines (list_of steps)

pub trace_alike : (options : TraceOptions) (object : Object) (lines : TextLines) (steps : List ℕ) → AreAlike (step_values.trace_on options object lines steps) (texts.trace_on object steps)
trace_alike options object lines steps =
    then_alike (list_work steps) (λ (list : List Step). work stages.Machine (Ok (step_values.trace_after options object lines list)))
    (λ (list : List Step). work stages.Machine (Ok (texts.trace_after object list))) (λ list. (refl, refl))

pub next_alike : (options : NextOptions) (object : Object) (lines : TextLines) (steps : List ℕ) → AreAlike (next_values.next_on options object lines steps) (texts.next_on options object steps)
next_alike options object lines steps =
    let json = λ (list : List Step) (state : State). work stages.Machine (Ok (next_values.next_from (values.source_of object lines) options (length list) (origins_of object list) state)) in
    let text = λ (state : State). work stages.Machine (Ok (texts.next_from object.layout options state)) in
    then_alike (list_work steps) (λ (list : List Step). state_work (run_of list (opening object)) >>= json list)
    (λ (list : List Step). state_work (run_of list (opening object)) >>= text)
    (λ list. then_alike (state_work (run_of list (opening object))) (json list) text (λ state. (refl, refl)))

-- ---- the whole command

-- what is alike ends alike
ends_alike : {json text : Work Report} → AreAlike json text → EndAlike json text
ends_alike alike = record {
  told = alike.0;
  as_text = λ stage. subst (λ (reached : List Stage). Contains reached stage) alike.1;
  as_json = λ stage. subst (λ (reached : List Stage). Contains reached stage) (sym alike.1);
}

-- A program is read, and a work done on it; as JSON it is read with the lines of its text, its questions and its names.
module _ (stage : Stage) (lines : TextLines) (questions : List NamedQuestion) (scope : Option Scope) (json : TextLines → Object → Work Report) where
  abbrev lined_in : Result Object Refused → Work LinedObject
  lined_in said = work stage said >>= λ (object : Object). done (record { object = object; lines = lines })

  abbrev as_json : Result Object Refused → Work Report
  as_json said =
      (lined_in said >>= λ (lined : LinedObject). done (record { lined = lined; questions = questions; scope = scope }))
      >>= λ (read : Questioned). json read.lined.lines read.lined.object

  module _ (text : Object → Work Report) (alike : (found : TextLines) (object : Object) → AreAlike (json found object) (text object)) where
    abbrev as_text : Result Object Refused → Work Report
    as_text said = work stage said >>= text

    whole_alike : (said : Result Object Refused) → AreAlike (as_json said) (as_text said)
    unfolding and_then done
    whole_alike (Ok object) = let rests = alike lines object in (rests.0, ap (λ (later : List Stage). stage ∷ later) rests.1)
    whole_alike (Err refused) = (refl, refl)

  module _ (text : TextLines → Object → Work Report) (alike : (found : TextLines) (object : Object) → AreAlike (json found object) (text found object)) where
    abbrev as_lined : Result Object Refused → Work Report
    as_lined said = lined_in said >>= λ (lined : LinedObject). text lined.lines lined.object

    both_alike : (said : Result Object Refused) → AreAlike (as_json said) (as_lined said)
    unfolding and_then done
    both_alike (Ok object) = let rests = alike lines object in (rests.0, ap (λ (later : List Stage). stage ∷ later) rests.1)
    both_alike (Err refused) = (refl, refl)

pub end_alike : (program : List ℕ) (json : TextLines → Object → Work Report) (text : Object → Work Report)
    → ((lines : TextLines) (object : Object) → AreAlike (json lines object) (text object))
    → EndAlike (questioned_work program >>= λ (read : Questioned). json read.lined.lines read.lined.object) (program_work program >>= text)
end_alike program json text alike =
    ends_alike (whole_alike (program_stage program) (lines_in_file program) (questions_in_file program) (scope_in_file program) json text alike (program_of program))

-- the same where both read the lines of the text
pub lined_alike : (program : List ℕ) (json text : TextLines → Object → Work Report)
    → ((lines : TextLines) (object : Object) → AreAlike (json lines object) (text lines object))
    → EndAlike (questioned_work program >>= λ (read : Questioned). json read.lined.lines read.lined.object)
    (lined_work program >>= λ (lined : LinedObject). text lined.lines lined.object)
lined_alike program json text alike =
    ends_alike (both_alike (program_stage program) (lines_in_file program) (questions_in_file program) (scope_in_file program) json text alike (program_of program))

-- and where both read its names
pub read_alike : (program : List ℕ) (json text : Questioned → Work Report) → ((read : Questioned) → AreAlike (json read) (text read))
    → EndAlike (questioned_work program >>= json) (questioned_work program >>= text)
read_alike program json text alike = ends_alike (then_alike (questioned_work program) json text alike)
