use Rattle.std.proofs.Common.{◌≡◌, ◌++◌, [], drop, string_bytes}
use Rattle.commands.specs.StateTexts.{placed_lines}
use Rattle.machine.specs.Steps.{run_of}
use Rattle.jobs.specs.Traces.{trace_text, attempt_text, attempts_of}
use Rattle.jobs.proofs.trace.push_trace.Given as goal

abbrev pub invariant-loop-i : goal.invariant-loop-i
invariant-loop-i l = record {
  text : string_bytes l.text ++ placed_lines [] (attempt_text l.layout) l.i (attempts_of (drop l.i l.steps) l.machine)
      ≡ string_bytes l.fn.text ++ trace_text l.layout l.steps l.fn.machine;
  refusal : (run_of (drop l.i l.steps) l.machine).refusal ≡ (run_of l.steps l.fn.machine).refusal;
}
