use Rattle.std.proofs.Common.{◌≡◌, ◌++◌, drop, length, map}
use Rattle.serde_json.specs.View.{view}
use Rattle.machine.specs.Steps.{run_of}
use Rattle.jobs.specs.Traces.{attempts_of}
use Rattle.json_texts.specs.Objects.{json_of}
use Rattle.json_jobs.specs.StepReports.{attempts_from}
use Rattle.json_jobs.proofs.trace_report.push_trace.Given as goal

abbrev pub invariant-loop-i : goal.invariant-loop-i
invariant-loop-i l = record {
  items : map view l.items.items ++ map json_of (attempts_from l.source l.states l.i l.origins (attempts_of (drop l.i l.steps) l.machine))
      ≡ map view l.fn.items.items ++ map json_of (attempts_from l.source l.states 0 l.fn.origins (attempts_of l.steps l.fn.machine));
  refusal : (run_of (drop l.i l.steps) l.machine).refusal ≡ (run_of l.steps l.fn.machine).refusal;
  shape : l.machine.shape ≡ map length l.source.names;
}
