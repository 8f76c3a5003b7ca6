use Rattle.std.proofs.Common.{◌≡◌, ◌+◌, None}
use Rattle.machine.specs.Programs.{AreSiblings}
use Rattle.hunt.specs.Crashes.{broken_in}
use Rattle.hunt.proofs.TurnsOfOneSchedule.{IsAt, IsUnbroken}
use Rattle.hunt.proofs.least_turn.loss_on.Given as goal

abbrev pub invariant-loop-turn : goal.invariant-loop-turn
invariant-loop-turn l = record {
  at : IsAt l.search.plan l.number l.search.machine l.turn l.own l.turns;
  none : broken_in l.search.cond l.own ≡ None;
  unbroken : IsUnbroken l.search.plan l.search.cond l.search.machine l.number (l.turn + 1);
  programs : AreSiblings l.own l.search.machine;
}
