use Rattle.explore.specs.Apart.{IsOnTheWay}
use Rattle.explore.proofs.on_the_way.fails_on_way.Given as goal

abbrev pub invariant-loop-step : goal.invariant-loop-step
invariant-loop-step l = IsOnTheWay l.start l.run l.step-index l.node.path l.node.state
