use Rattle.std.proofs.Common.{ap, ◌∙◌}
use Rattle.machine.specs.State.{State}
use Rattle.images.specs.Truth.{holds_in}
use Rattle.layer_tests.proofs.stops.fn.asks.new.Goals as goal

pub returns : goal.returns
returns c = c.holds.ensures ∙ ap (λ (s : State). holds_in s c.captures.asked) c.view.ensures
