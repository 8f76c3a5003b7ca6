use Rattle.std.proofs.Common.{◌≡◌, drop}
use Rattle.explore.specs.Gathered.{runs_at, runs_from}
use Rattle.explore.specs.Sets.{included_all}
use Rattle.explore.proofs.gathered.note_runs.Given as goal

abbrev pub invariant-loop-p : goal.invariant-loop-p
invariant-loop-p l = included_all l.ran (runs_from l.here l.p (drop l.p l.here.processors)) ≡ included_all l.fn.ran (runs_at l.here)
