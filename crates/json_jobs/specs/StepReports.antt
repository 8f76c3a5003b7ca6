-- The report of `trace` as JSON.
use Rattle.std.specs.Prelude.{◌≡◌, ℕ, ◌+◌, Bool, if◌then◌else◌, Option, None, Some, Result, Ok, Err, List, [], ◌∷◌, ◌++◌, codes, length}
use Rattle.lines_layout.specs.Layouts.{NamedLines}
use Rattle.image_reasons.specs.Origins.{Origins, no_origins, origins_behind, origins_next}
use Rattle.isa.specs.declared.instr.Instr.{Instr}
use Rattle.isa.specs.Objects as programs
use Rattle.machine.specs.declared.refusal.Refusal.{Refusal}
use Rattle.machine.specs.declared.step.Seen.{Seen}
use Rattle.machine.specs.declared.step.Step.{Step}
use Rattle.machine.specs.declared.step.Step.TheVariants.{Exec}
use Rattle.machine.specs.Objects.{opening}
use Rattle.machine.specs.Processors.{instruction_at}
use Rattle.machine.specs.State.{State}
use Rattle.machine.specs.Steps.{run_of, step_of}
use Rattle.commands.specs.declared.fault.Stage.TheVariants as stages
use Rattle.commands.specs.declared.jobs.TraceOptions.{TraceOptions}
use Rattle.commands.specs.Programs.{list_work}
use Rattle.commands.specs.Serving.{Report}
use Rattle.commands.specs.Works.{◌>>=◌, Work, work}
use Rattle.jobs.specs.Reports.{status_of}
use Rattle.jobs.specs.Traces.{Attempt, attempts_of}
use Rattle.json_texts.specs.Objects.{Field, Tree, header, list, null, num, obj, or_null}
use Rattle.litmus_text.specs.TextLines.{TextLines}
use Rattle.json_texts.specs.SourceMaps.{SourceMap}
use Rattle.json_texts.specs.StateData.{refused_data, sited_state}
use Rattle.json_texts.specs.StepData.{instruction_data, seen_data, step_data}
use Rattle.json_texts.specs.StepLines.{line_data, step_line}
use Rattle.json_texts.specs.ValueReports.{value_report}
use Rattle.json_jobs.specs.JsonReports.{source_of}

-- the instruction that a step executes, if it is an Exec and there is one
abbrev pub instruction_of : State → Step → Option Instr
instruction_of s (Exec p) = instruction_at s p
instruction_of s step = None

-- a step, and the instruction that it executes with its line
abbrev pub step_fields : SourceMap → State → Step → List Field
step_fields source s step =
    (codes "step", step_data step) ∷ (codes "instruction", or_null (instruction_data source.names) (instruction_of s step))
    ∷ (codes "line", line_data (step_line source.lines s step)) ∷ []

-- what is tried: the place of the step in the list, and the step
abbrev pub tried_fields : SourceMap → ℕ → State → Step → List Field
tried_fields source at s step = (codes "at", num at) ∷ step_fields source s step

-- what an accepted step showed
abbrev pub seen_fields : NamedLines → Seen → List Field
seen_fields names seen = (codes "seen", seen_data names seen) ∷ (codes "refused", null) ∷ []

-- why a step was refused
abbrev pub refused_fields : ℕ → Refusal → List Field
refused_fields at refusal = (codes "seen", null) ∷ (codes "refused", refused_data at refusal) ∷ []

-- what came of it
abbrev pub outcome_fields : NamedLines → ℕ → Result (Seen × State) Refusal → List Field
outcome_fields names at (Ok done) = seen_fields names done.0
outcome_fields names at (Err refusal) = refused_fields at refusal

-- The refusal, if the step is refused; otherwise the state that it leaves.
abbrev pub Leaves : Option Refusal → Result (Seen × State) Refusal → State → Type 0
Leaves None tried after = (seen : Seen) × (tried ≡ Ok (seen, after))
Leaves (Some refusal) tried after = tried ≡ Err refusal

-- a state, where states are asked for, with what is kept of its run
abbrev pub state_if : SourceMap → Bool → Origins → State → Tree
state_if source states o s = if states then sited_state source o s else null

-- the state that a step leaves which was tried as the n-th: none where the step is refused
abbrev pub state_left : SourceMap → Bool → ℕ → Origins → Result (Seen × State) Refusal → Tree
state_left source states n o (Ok done) = state_if source states (origins_next n o done.0) done.1
state_left source states n o (Err refusal) = null

-- the same with its name
abbrev pub left_fields : SourceMap → Bool → ℕ → Origins → Result (Seen × State) Refusal → List Field
left_fields source states n o tried = (codes "state", state_left source states n o tried) ∷ []

-- an attempt, what came of it, and the state that it leaves
abbrev pub attempt_data : SourceMap → Bool → ℕ → Origins → Attempt → Tree
attempt_data source states at o attempt =
    let tried = step_of attempt.before attempt.step in
    obj (tried_fields source at attempt.before attempt.step ++ outcome_fields source.names at tried ++ left_fields source states at o tried)

-- attempts, of which the first has this place, where this is kept of the steps before it
abbrev pub attempts_from : SourceMap → Bool → ℕ → Origins → List Attempt → List Tree
attempts_from source states at o [] = []
attempts_from source states at o (attempt ∷ later) =
    attempt_data source states at o attempt
    ∷ attempts_from source states (at + 1) (origins_behind at o (step_of attempt.before attempt.step)) later

-- the state before the first step, and each step up to the first that is refused
abbrev pub trace_data : SourceMap → TraceOptions → List Step → Origins → State → Tree
trace_data source options steps o s =
    obj (header (codes "trace") ++ (codes "state", state_if source options.states o s)
    ∷ (codes "steps", list (attempts_from source options.states 0 o (attempts_of steps s))) ∷ [])

-- the same as a report, with the status of run
abbrev pub trace_after : TraceOptions → programs.Object → TextLines → List Step → Report
trace_after options object lines steps =
    value_report (trace_data (source_of object lines) options steps (no_origins (length object.processors)) (opening object))
    (status_of (run_of steps (opening object)).refusal)

-- trace --json
abbrev pub trace_on : TraceOptions → programs.Object → TextLines → List ℕ → Work Report
trace_on options object lines steps = do
  list ← list_work steps
  work stages.Machine (Ok (trace_after options object lines list))
