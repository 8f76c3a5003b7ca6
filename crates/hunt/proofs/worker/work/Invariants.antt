use Rattle.std.proofs.Common.{◌-◌}
use Rattle.machine.specs.Programs.{AreSiblings}
use Rattle.hunt.specs.Seats.{limit_of, view_of, IsSeatOf}
use Rattle.hunt.specs.Done.{Did, top}
use Rattle.hunt.specs.Founds.{IsOfLeast}
use Rattle.hunt.specs.Known.{breaks}
use Rattle.hunt.proofs.worker.work.Given as goal

abbrev pub invariant-loop-claim : goal.invariant-loop-claim
invariant-loop-claim g l = record {
  seat : IsSeatOf l.board l.seat;
  did : Did (breaks l.target) (view_of l.seat);
  found : IsOfLeast l.target (view_of l.seat).reported l.found;
  programs : AreSiblings l.own l.target.search.machine;
}

abbrev pub decreases-loop-claim : goal.decreases-loop-claim
decreases-loop-claim g l = limit_of l.board - top (view_of l.seat).claimed
