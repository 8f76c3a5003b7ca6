use Rattle.std.proofs.Common.{◌≡◌, map, drop}
use Rattle.debugger.specs.Stops.{armed}
use Rattle.debugger.specs.Halts.{stop_at}
use Rattle.debugger.proofs.places.first_true.Given as goal

abbrev pub invariant-loop-stop : goal.invariant-loop-stop
invariant-loop-stop g l = stop_at (map (λ t. armed t.id t.cond) (drop l.stop-index l.stops)) l.machine ≡ stop_at (map (λ t. armed t.id t.cond) l.stops) l.machine
