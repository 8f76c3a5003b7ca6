use Rattle.std.proofs.Common.{◌≡◌}
use Rattle.machine.specs.Programs.{AreSiblings}
use Rattle.hunt.specs.LossSums.{losses_from}
use Rattle.hunt.proofs.losses.losses_of_run.Given as goal

abbrev pub invariant-loop-k : goal.invariant-loop-k
invariant-loop-k g l = record {
  losses : l.losses ≡ losses_from l.search.plan l.search.cond l.search.machine l.range.first l.k;
  programs : AreSiblings l.own l.search.machine;
}
