use Rattle.std.proofs.Common.{ap, ◌∙◌, sym}
use Rattle.machine.specs.State.{State}
use Rattle.hunt.specs.Ends.{is_end}
use Rattle.images.specs.Truth.{holds_in}
use Rattle.hunt.proofs.TwiceDenied.{not_broken}
use Rattle.hunt.proofs.worker.holds_if_ended.Goals as goal

pub returns-else-not-ended-clause-breaks : goal.returns-else-not-ended-clause-breaks
returns-else-not-ended-clause-breaks c =
    let last = c.view-view.ensures ∙ c.run_to_last.ensures.state in
    let ends = c.is_end-ended.ensures ∙ ap (λ (s : State). is_end c.args.recovered s) last in
    c.holds-met.ensures ∙ ap (λ (s : State). holds_in s c.args.search.now.cond) last ∙ not_broken _ _ (sym ends ∙ c.if-not-ended.false)
