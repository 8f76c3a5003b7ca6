-- The report of `run` as JSON.
use Rattle.std.specs.Prelude.{ℕ, Ok, List}
use Rattle.image_reasons.specs.Origins.{Origins, origins_of}
use Rattle.isa.specs.Objects as programs
use Rattle.machine.specs.Objects.{opening}
use Rattle.machine.specs.Steps.{End, run_of}
use Rattle.commands.specs.declared.fault.Stage.TheVariants as stages
use Rattle.commands.specs.Programs.{list_work}
use Rattle.commands.specs.Serving.{Report}
use Rattle.commands.specs.Works.{◌>>=◌, Work, work}
use Rattle.jobs.specs.Reports.{end_status}
use Rattle.json_texts.specs.SourceMaps.{SourceMap}
use Rattle.json_texts.specs.StateData.{run_data}
use Rattle.json_texts.specs.ValueReports.{value_report}
use Rattle.litmus_text.specs.TextLines.{TextLines}
use Rattle.json_jobs.specs.JsonReports.{source_of}

-- how a run ended, of which this is kept, as a report
abbrev pub run_from : SourceMap → Origins → End → Report
run_from source o end = value_report (run_data source o end) (end_status end)

-- run --json: what is kept of the run is kept beside it
abbrev pub run_on : programs.Object → TextLines → List ℕ → Work Report
run_on object lines steps = do
  list ← list_work steps
  end ← work stages.Machine (Ok (run_of list (opening object)))
  work stages.Machine (Ok (run_from (source_of object lines) (origins_of object list) end))
