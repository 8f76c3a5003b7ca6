use Rattle.std.proofs.Common.{◌≡◌, map, take}
use Rattle.debugger.specs.Stops.{armed}
use Rattle.debug_scripts.specs.DebugPlans.{stop_ordered}
use Rattle.debug_scripts.proofs.command.put_plan.Given as goal

abbrev pub invariant-loop-order : goal.invariant-loop-order
invariant-loop-order g l = map (λ t. armed t.id t.cond) l.stops.items ≡ map stop_ordered (take l.order-index l.order-items)
