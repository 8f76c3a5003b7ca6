use Rattle.std.proofs.Common.{◌≡◌}
use Rattle.machine.specs.Programs.{AreSiblings}
use Rattle.hunt.specs.Outcomes.{outcomes_from}
use Rattle.hunt.proofs.ends.outcomes_on.Given as goal

abbrev pub invariant-loop-k : goal.invariant-loop-k
invariant-loop-k g l = record {
  outcomes : l.outcomes.items ≡ outcomes_from l.plan l.machine l.range.first l.k;
  programs : AreSiblings l.own l.machine;
}
