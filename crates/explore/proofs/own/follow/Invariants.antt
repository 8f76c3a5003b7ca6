use Rattle.std.proofs.Common.{◌≡◌, ◌++◌}
use Rattle.machine.specs.Programs.{AreSiblings}
use Rattle.explore.specs.Followed.{all_own, own_end, owns_of}
use Rattle.explore.specs.Gathered.{followed_runs}
use Rattle.explore.specs.Sets.{included_all}
use Rattle.explore.proofs.own.follow.Given as goal

abbrev pub invariant-loop-step : goal.invariant-loop-step
invariant-loop-step l = record {
  end : own_end l.locals l.here ≡ own_end l.locals l.fn.here;
  steps : l.steps.items ++ owns_of l.locals l.here ≡ l.fn.steps.items ++ owns_of l.locals l.fn.here;
  ran : included_all l.ran (followed_runs l.locals l.here) ≡ included_all l.fn.ran (followed_runs l.locals l.fn.here);
  siblings : AreSiblings l.here l.fn.here;
}

abbrev pub decreases-loop-step : goal.decreases-loop-step
decreases-loop-step l = all_own l.here.processors
