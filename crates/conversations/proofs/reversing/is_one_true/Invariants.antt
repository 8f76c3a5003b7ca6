use Rattle.std.proofs.Common.{◌≡◌, drop, map}
use Rattle.std.specs.List.{list_any}
use Rattle.images.specs.Truth.{holds_in}
use Rattle.debugger.specs.Stops.{armed}
use Rattle.conversations.proofs.reversing.is_one_true.Given as goal

abbrev pub invariant-loop-stop : goal.invariant-loop-stop
invariant-loop-stop g l =
    list_any (λ t. holds_in l.machine t.cond) (map (λ t. armed t.id t.cond) (drop l.stop-index l.stops)) ≡ list_any (λ t. holds_in l.machine t.cond) (map (λ t. armed t.id t.cond) l.stops)
