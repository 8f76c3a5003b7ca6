-- `debug` ends the same with its report as JSON and in lines.
use Rattle.std.proofs.Common.{Result, Ok, Err, List, [], ◌∷◌, ◌++◌, inl, inr, refl, subst, arith}
use Rattle.std.specs.Prelude.{Contains}
use Rattle.std.proofs.lemmas.List.Elements.{Contains-append_left, Contains-push_cases}
use Rattle.isa.specs.Objects.{Object}
use Rattle.machine.specs.Objects.{opening}
use Rattle.litmus_text.specs.TextLines.{TextLines}
use Rattle.litmus_text.specs.declared.text_lines.LinedObject.{LinedObject}
use Rattle.commands.specs.declared.fault.Refused.{Refused}
use Rattle.commands.specs.declared.fault.Stage.{Stage}
use Rattle.commands.specs.declared.fault.Stage.TheVariants as stages
use Rattle.commands.specs.Programs.{lines_in_file, program_of, program_stage}
use Rattle.commands.specs.Serving.{Report, Sources}
use Rattle.commands.specs.Works.{◌>>=◌, Work, and_then, done, work}
use Rattle.debug_scripts.specs.DebugPlans.{Plan, orders_work, plan, plan_work, replies_work}
use Rattle.debug_scripts.specs.Replies.{Told}
use Rattle.debug_scripts.specs.Scripts.{Script, script_work}
use Rattle.json_jobs.specs.SameStatuses.{EndAlike}
use Rattle.json_scripts.specs.DebugData.{debug_report, debug_work}

-- a script that is read
abbrev orders_of : Result Script Refused → Work Script
orders_of said = record { told = said; reached = stages.Steps ∷ stages.Conditions ∷ [] }

-- the plan of a program and a script
abbrev planned : Object → Script → Work Plan
planned object orders = work stages.Machine (Ok (plan object.layout (opening object) orders))

-- a program and a script are read, and the script is played
abbrev as_json : Stage → TextLines → (Object → Result Script Refused) → Result Object Refused → Work Report
as_json stage lines scripts said =
    (work stage said >>= λ (object : Object). done (record { object = object; lines = lines }))
    >>= λ (lined : LinedObject). (orders_of (scripts lined.object) >>= λ (orders : Script). planned lined.object orders >>= replies_work)
    >>= λ (told : List Told). work stages.Machine (Ok (debug_report lined told))

abbrev in_lines : Stage → (Object → Result Script Refused) → Result Object Refused → Work Report
in_lines stage scripts said = (work stage said >>= λ (object : Object). orders_of (scripts object) >>= planned object) >>= orders_work

-- the stages of a program and a script that are read whole
abbrev reached_in_lines : Stage → List Stage
reached_in_lines stage = stage ∷ stages.Steps ∷ stages.Conditions ∷ stages.Machine ∷ stages.Conditions ∷ stages.Machine ∷ stages.Session ∷ []

-- the report as JSON reaches none besides
none_besides : (stage one : Stage) → Contains (reached_in_lines stage ++ stages.Machine ∷ []) one → Contains (reached_in_lines stage) one
none_besides stage one has = elim (Contains-push_cases (reached_in_lines stage) stages.Machine one has) [
  | inl already ↦ already
  | inr is ↦ subst (λ (x : Stage). Contains (reached_in_lines stage) x) is (3, omega arith, refl)
]

with_script : (stage : Stage) (lines : TextLines) (object : Object) (said : Result Script Refused)
    → EndAlike (as_json stage lines (λ _. said) (Ok object)) (in_lines stage (λ _. said) (Ok object))
unfolding and_then done replies_work orders_work
with_script stage lines object (Ok orders) = record {
  told = refl;
  as_text = λ one has. none_besides stage one has;
  as_json = λ one has. Contains-append_left (reached_in_lines stage) (stages.Machine ∷ []) one has;
}
with_script stage lines object (Err refused) = record { told = refl; as_text = λ one has. has; as_json = λ one has. has }

with_program : (stage : Stage) (lines : TextLines) (scripts : Object → Result Script Refused) (said : Result Object Refused)
    → EndAlike (as_json stage lines scripts said) (in_lines stage scripts said)
unfolding and_then done
with_program stage lines scripts (Ok object) = with_script stage lines object (scripts object)
with_program stage lines scripts (Err refused) = record { told = refl; as_text = λ one has. has; as_json = λ one has. has }

pub ends_alike : (both : Sources) → EndAlike (debug_work both) (plan_work both.program both.steps >>= orders_work)
ends_alike both =
    with_program (program_stage both.program) (lines_in_file both.program) (λ (object : Object). (script_work object.layout both.steps).told) (program_of both.program)
