use Rattle.std.proofs.Common.{ap, ◌∙◌}
use Rattle.machine.specs.State.{State}
use Rattle.images.specs.Truth.{holds_in}
use Rattle.hunt.proofs.TwiceDenied.{twice_not}
use Rattle.hunt.proofs.worker.holds_at_end.Goals as goal

pub returns-clause-fails : goal.returns-clause-fails
returns-clause-fails c =
    c.holds.ensures ∙ ap (λ (s : State). holds_in s c.args.search.now.cond) (c.view.ensures ∙ c.run_to_last.ensures.state) ∙ twice_not _
