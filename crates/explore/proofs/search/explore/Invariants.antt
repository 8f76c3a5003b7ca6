use Rattle.std.proofs.Common.{◌≡◌, ◌-◌, ◌≤◌}
use Rattle.machine.specs.Programs.{AreSiblings}
use Rattle.explore.specs.Exploring.{IsUnderWay}
use Rattle.explore.specs.Sound.{IsSound}
use Rattle.explore.proofs.search.explore.Given as goal

abbrev pub invariant-loop-at : goal.invariant-loop-at
invariant-loop-at g l = record {
  way : IsSound l.start → IsUnderWay l.question l.start l.fn.search.found l.fn.search.gathered 0 → IsUnderWay l.question l.start l.search.found l.search.gathered l.at;
  few : l.at ≤ l.limit;
  node : AreSiblings l.search.node.state l.start;
  trail : l.search.node.trail ≡ l.start;
  spare : AreSiblings l.search.spare l.start;
}

abbrev pub decreases-loop-at : goal.decreases-loop-at
decreases-loop-at g l = l.limit - l.at
