use Rattle.std.proofs.Common.{Bool, not, ◌&&◌, ap, ap₂, ◌∙◌}
use Rattle.machine.specs.State.{State}
use Rattle.images.specs.Truth.{holds_in}
use Rattle.hunt.specs.Ends.{is_end, one_end}
use Rattle.hunt.proofs.end_counts.counted.Goals as goal

pub returns-clause-counts : goal.returns-clause-counts
returns-clause-counts c =
    let last = c.view-view.ensures ∙ c.run_to_last.ensures.state in
    let ends = c.is_end-ended.ensures ∙ ap (λ (s : State). is_end c.args.recovered s) last in
    let met = c.holds-met.ensures ∙ ap (λ (s : State). holds_in s c.args.search.now.cond) last in
    c.one.ensures
    ∙ ap₂ (λ (ended broken : Bool). one_end ended broken c.args.number) ends
    (c.is_broken.ensures ∙ ap₂ (λ (ended met : Bool). ended && not met) ends met)
