use Rattle.std.proofs.Common.{ap₂, sym, ◌∙◌}
use Rattle.hunt.specs.LossSums.{both}
use Rattle.hunt.proofs.LossesJoin.{losses_join, sum_fits}
use Rattle.hunt.proofs.losses.SearchedCountingLossesLosses.add.Goals as goal

pub both-requires : goal.both-requires
both-requires g c =
    let search = c.args.self.now.search.now in let of = c.requires in
    sum_fits search.plan search.cond search.machine of.first of.done of.more c.args.losses.now c.args.run of.before of.after of.few

pub returns : goal.returns
returns g c =
    let search = c.args.self.now.search.now in
    λ first done more was is.
    c.both.ensures ∙ ap₂ both was is ∙ sym (losses_join search.plan search.cond search.machine first done more)
