-- What a program file, a condition and a list of steps say, and the state to which the steps lead.
use Rattle.std.specs.Prelude.{◌≡◌, ℕ, Bool, true, if◌then◌else◌, Option, Some, None, Result, Ok, Err, List, [], IsOk, nat_eq, codes}
use Rattle.std.specs.List.{starts_with}
use Rattle.outcomes.specs.Outcomes.{refused_as}
use Rattle.text_tokens.specs.Text.{lines_of}
use Rattle.conditions.specs.Formulas.{Formula}
use Rattle.loader.specs.Reading.{object_of}
use Rattle.litmus_text.specs.declared.fault.TextFault.{TextFault}
use Rattle.litmus_text.specs.declared.text_lines.LinedObject.{LinedObject}
use Rattle.litmus_text.specs.Grammar.{IsText}
use Rattle.litmus_text.specs.LinedObjects.{lined_of}
use Rattle.litmus_text.specs.SourceLines.{lines_found}
use Rattle.litmus_text.specs.TextLines.{TextLines}
use Rattle.litmus_text.specs.Texts.{litmus_of}
use Rattle.questions.specs.Questions.{NamedQuestion, Questioned}
use Rattle.questions.specs.Conditions.{asked_of}
use Rattle.questions.specs.Reading.{questioned_of}
use Rattle.questions.specs.Scopes.{Scope}
use Rattle.sheets.specs.Reading.{is_sheet, lines_of_sheet, litmus_said}
use Rattle.isa.specs.Objects as programs
use Rattle.machine.specs.declared.refusal.Refusal.{Refusal}
use Rattle.machine.specs.declared.step.Step.{Step}
use Rattle.machine.specs.State.{State}
use Rattle.machine.specs.Steps.{End}
use Rattle.schedule.specs.StepTexts.{steps_of}
use Rattle.commands.specs.declared.fault.Refused.{Refused}
use Rattle.commands.specs.declared.fault.Refused.TheVariants as refusals
use Rattle.commands.specs.declared.fault.Stage.{Stage}
use Rattle.commands.specs.declared.fault.Stage.TheVariants as stages
use Rattle.commands.specs.Works.{◌>>=◌, Work, done, work}

-- whether a program file is an object file, of whatever version: it begins so
abbrev pub is_object_file : List ℕ → Bool
is_object_file bytes = starts_with nat_eq bytes (codes "PX86OBJ")

-- the stage in which a program file is understood
abbrev pub program_stage : List ℕ → Stage
program_stage bytes = if is_object_file bytes then stages.Object else stages.Text

-- the program of a sheet whose questions are read too
abbrev pub program_told : Result Questioned TextFault → Result programs.Object TextFault
program_told (Ok asked) = Ok asked.lined.object
program_told (Err fault) = Err fault

-- the program that a text says, as a sheet with its questions or as a litmus text
abbrev pub text_program_of : List ℕ → Result programs.Object TextFault
text_program_of bytes = if is_sheet bytes then program_told (questioned_of bytes) else litmus_of bytes

-- the program that a file says, as an object file or as a text
abbrev pub program_of : List ℕ → Result programs.Object Refused
program_of bytes =
    if is_object_file bytes then refused_as (λ fault. refusals.Object fault) (object_of bytes)
    else refused_as (λ fault. refusals.Text fault) (text_program_of bytes)

abbrev pub program_work : List ℕ → Work programs.Object
program_work bytes = work (program_stage bytes) (program_of bytes)

-- the lines of the instructions of a text; those of a sheet are its own
abbrev pub lines_in_text : List ℕ → TextLines
lines_in_text bytes = if is_sheet bytes then lines_of_sheet bytes else Some (lines_found bytes)

-- the lines of the instructions of a program file, where it is a text
abbrev pub lines_in_file : List ℕ → TextLines
lines_in_file bytes = if is_object_file bytes then None else lines_in_text bytes

-- what a text says that asks nothing
abbrev pub unasked : Result LinedObject TextFault → Result Questioned TextFault
unasked (Ok lined) = Ok (record { lined = lined; questions = []; scope = None })
unasked (Err fault) = Err fault

-- what a text says with its questions, or its fault: a sheet alone has questions
abbrev pub asked_text_of : List ℕ → Result Questioned TextFault
asked_text_of bytes = if is_sheet bytes then questioned_of bytes else unasked (lined_of bytes)

-- the program that a file says, with these lines
abbrev pub lined_work : List ℕ → Work LinedObject
lined_work bytes = do
  object ← program_work bytes
  done (record { object = object; lines = lines_in_file bytes })

-- the questions that are read
abbrev pub questions_told : Result Questioned TextFault → List NamedQuestion
questions_told (Ok asked) = asked.questions
questions_told (Err fault) = []

-- what a condition may name
abbrev pub scope_told : Result Questioned TextFault → Option Scope
scope_told (Ok asked) = asked.scope
scope_told (Err fault) = None

-- the questions of a program file, where it is a text
abbrev pub questions_in_file : List ℕ → List NamedQuestion
questions_in_file bytes = if is_object_file bytes then [] else questions_told (asked_text_of bytes)

-- what a condition may name of a program file, where that is a sheet
abbrev pub scope_in_file : List ℕ → Option Scope
scope_in_file bytes = if is_object_file bytes then None else scope_told (asked_text_of bytes)

-- the program that a file says, with its lines, its questions, and what a condition of it may name
abbrev pub questioned_work : List ℕ → Work Questioned
questioned_work bytes = do
  lined ← lined_work bytes
  done (record { lined = lined; questions = questions_in_file bytes; scope = scope_in_file bytes })

-- a condition of a program
abbrev pub condition_work : Questioned → List ℕ → Work Formula
condition_work program text = work stages.Conditions (refused_as (λ fault. refusals.Condition fault) (asked_of program text))

-- the same, if one is asked for
abbrev pub asked_condition : Questioned → Option (List ℕ) → Work (Option Formula)
asked_condition program None = done None
asked_condition program (Some text) = condition_work program text >>= λ condition. done (Some condition)

-- what a list of steps says
abbrev pub list_of : List ℕ → Result (List Step) Refused
list_of bytes = refused_as (λ line. refusals.Steps line) (steps_of bytes)

abbrev pub list_work : List ℕ → Work (List Step)
list_work bytes = work stages.Steps (list_of bytes)

-- the state that a run left, where no step was refused
abbrev pub unless_refused : Option Refusal → ℕ → State → Result State Refused
unless_refused None accepted s = Ok s
unless_refused (Some refusal) accepted s = Err (refusals.Step refusal accepted)

-- the state after all steps, or the first refused one and how many were accepted before it
abbrev pub state_after : End → Result State Refused
state_after end = unless_refused end.refusal end.accepted end.state

abbrev pub state_work : End → Work State
state_work end = work stages.Machine (state_after end)

-- The questions of a sheet are read: none has a fault.
abbrev pub HasGoodQuestions : List ℕ → Type 0
HasGoodQuestions bytes = IsOk (questioned_of bytes)

-- a sheet whose lines say the lines of a text of this value, and whose questions are good
abbrev pub IsSheetOf : programs.Object → List ℕ → Type 0
IsSheetOf object bytes = (is_sheet bytes ≡ true) × IsText (lines_of (litmus_said bytes)) object × HasGoodQuestions bytes
