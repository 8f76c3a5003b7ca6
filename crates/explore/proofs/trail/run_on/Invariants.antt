use Rattle.std.proofs.Common.{◌≤◌, ◌*◌, ◌-◌, length, take}
use Rattle.explore.specs.Trails.{AreAlong, IsAlong, distance}
use Rattle.explore.proofs.trail.run_on.Given as goal

abbrev pub invariant-loop-kept : goal.invariant-loop-kept
invariant-loop-kept l = record {
  along : AreAlong l.start l.path l.machines.items l.kept;
  within : distance * l.kept ≤ length l.path;
  here : IsAlong l.start (take (distance * l.kept) l.path) l.here;
}

abbrev pub decreases-loop-kept : goal.decreases-loop-kept
decreases-loop-kept l = 64 - l.kept
