use Rattle.std.proofs.Common.{◌∙◌}
use Rattle.hunt.proofs.LossesJoin.{all_losses}
use Rattle.hunt.proofs.losses.count_losses.Goals as goal

pub returns : goal.returns
returns g c =
    let search = c.args.search.now in
    c.in_ok-losses.ensures ∙ all_losses search.plan search.cond search.machine search.range.first search.range.n
