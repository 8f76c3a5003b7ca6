use Rattle.std.proofs.Common.{◌≡◌, drop}
use Rattle.machine.specs.Steps.{run_of}
use Rattle.image_reasons.specs.Origins.{origins_on, trace_of}
use Rattle.image_reasons.proofs.after.follow.Given as goal

abbrev pub invariant-loop-n : goal.invariant-loop-n
invariant-loop-n l = record {
  refusal : (run_of l.steps l.fn.machine).refusal ≡ (run_of (drop l.n l.steps) l.machine).refusal;
  state : (run_of l.steps l.fn.machine).state ≡ (run_of (drop l.n l.steps) l.machine).state;
  noted : origins_on 0 l.fn.origins (trace_of l.steps l.fn.machine) ≡ origins_on l.n l.origins (trace_of (drop l.n l.steps) l.machine);
}
