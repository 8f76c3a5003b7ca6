use Rattle.std.proofs.Common.{refl}
use Rattle.jobs.proofs.TracedAttempts.{count_refused, count_whole, last_refused, attempt_made, attempt_there}
use Rattle.jobs.proofs.laws.traces_are_of_runs.Goals as goal

pub returns : goal.returns
returns c = record {
  whole = count_whole;
  refused = count_refused;
  each = attempt_there;
  made = attempt_made;
  last = last_refused;
  status = λ object steps. refl;
}
