-- The report of `next` as JSON.
use Rattle.std.specs.Prelude.{ℕ, Bool, Ok, List, [], ◌∷◌, ◌++◌, codes, length, map}
use Rattle.image_reasons.specs.Origins.{Origins, origins_of}
use Rattle.isa.specs.Objects as programs
use Rattle.machine.specs.declared.step.Step.{Step}
use Rattle.machine.specs.Objects.{opening}
use Rattle.machine.specs.State.{State}
use Rattle.machine.specs.Steps.{run_of, step_of}
use Rattle.commands.specs.declared.fault.Stage.TheVariants as stages
use Rattle.commands.specs.declared.jobs.NextOptions.{NextOptions}
use Rattle.commands.specs.Programs.{list_work, state_work}
use Rattle.commands.specs.Serving.{Report}
use Rattle.commands.specs.Works.{◌>>=◌, Work, work}
use Rattle.jobs.specs.NextSteps.{next_status, next_steps}
use Rattle.json_texts.specs.Objects.{Tree, header, list, obj}
use Rattle.litmus_text.specs.TextLines.{TextLines}
use Rattle.json_texts.specs.SourceMaps.{SourceMap}
use Rattle.json_texts.specs.ValueReports.{value_report}
use Rattle.json_jobs.specs.JsonReports.{source_of}
use Rattle.json_jobs.specs.StepReports.{left_fields, outcome_fields, step_fields}

-- a step that is tried in a state, behind so many given ones, of which this is kept: as it is in a trace, without its place there, and
-- the state that it leaves
abbrev pub next_data : SourceMap → Bool → ℕ → Origins → State → Step → Tree
next_data source states given o s step =
    let tried = step_of s step in
    obj (step_fields source s step ++ outcome_fields source.names given tried ++ left_fields source states given o tried)

-- each step that is reported
abbrev pub all_next_data : SourceMap → NextOptions → ℕ → Origins → State → Tree
all_next_data source options given o s =
    obj (header (codes "next") ++ (codes "steps", list (map (next_data source options.states given o s) (next_steps options.refused s))) ∷ [])

-- the same as a report, with the status of the text
abbrev pub next_from : SourceMap → NextOptions → ℕ → Origins → State → Report
next_from source options given o s = value_report (all_next_data source options given o s) (next_status s)

-- next --json
abbrev pub next_on : NextOptions → programs.Object → TextLines → List ℕ → Work Report
next_on options object lines steps = do
  given ← list_work steps
  state ← state_work (run_of given (opening object))
  work stages.Machine (Ok (next_from (source_of object lines) options (length given) (origins_of object given) state))
