use Rattle.std.proofs.Common.{◌≡◌, drop}
use Rattle.machine.specs.Programs.{AreSiblings}
use Rattle.explore.specs.Found.{HasNode, tries_of}
use Rattle.explore.specs.Gathered.{runs_behind_all}
use Rattle.explore.specs.Sets.{included_all}
use Rattle.explore.specs.Visits.{GoesOnIf}
use Rattle.explore.proofs.FoundPaths.{Grows}
use Rattle.explore.proofs.tries.try_each.Given as goal

abbrev pub invariant-loop-step : goal.invariant-loop-step
invariant-loop-step l = record {
  tried : tries_of l.locals l.node.state l.node.path (drop l.step-index l.moves) l.found ≡ tries_of l.locals l.node.state l.node.path l.moves l.fn.found;
  ran : included_all l.ran (runs_behind_all l.locals l.node.state (drop l.step-index l.moves)) ≡ included_all l.fn.ran (runs_behind_all l.locals l.node.state l.moves);
  grows : Grows l.fn.found.paths l.found.paths;
  on : GoesOnIf l.goes_on l.locals l.node l.fn.found l.found;
  siblings : AreSiblings l.spare l.node.state;
  there : HasNode l.found l.node;
}
