use Rattle.std.proofs.Common.{◌≡◌, ◌+◌, ◌≤◌, All, vec_len, vec_capacity}
use Rattle.std.specs.Arc.{arc_value}
use Rattle.hunt.specs.Errands.{WorksFor}
use Rattle.hunt.specs.Returns.{IsReady}
use Rattle.hunt.proofs.hunts.start_all.Given as goal

abbrev pub invariant-loop-seat : goal.invariant-loop-seat
invariant-loop-seat g l = record {
  seats : All (IsReady (arc_value l.task).board) l.seats.items;
  each : All (WorksFor (arc_value l.task).board (arc_value l.task).target) l.workers.items;
  length : vec_len l.workers + vec_len l.seats ≡ vec_len l.fn.seats;
  room : vec_len l.workers + vec_len l.seats ≤ vec_capacity l.workers;
}

abbrev pub decreases-loop-seat : goal.decreases-loop-seat
decreases-loop-seat g l = vec_len l.seats
