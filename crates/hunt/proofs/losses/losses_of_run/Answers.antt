use Rattle.std.proofs.Common.{ap, ap₂, ◌∙◌, arith}
use Rattle.hunt.specs.declared.losses.Losses.{Losses}
use Rattle.hunt.specs.LossSums.{both, one_loss}
use Rattle.hunt.proofs.LossesJoin.{losses_few, losses_more, one_few}
use Rattle.hunt.proofs.losses.losses_of_run.Goals as goal

pub both-losses-requires : goal.both-losses-requires
both-losses-requires g c =
    let search = c.args.search.now in
    let was = ap (λ (x : Losses). x.broken) c.loop-k.invariant.losses in
    let few = losses_few search.plan search.cond search.machine c.args.range.first c.loop-k.k in
    let one = one_few c.in_ok-loss.loss in
    let is = ap (λ (x : Losses). x.broken) c.one.ensures in
    omega (arith, was, few, one, is)

pub loop-k-preserved : goal.loop-k-preserved
loop-k-preserved g c =
    let search = c.args.search.now in
    record {
      losses = c.both-losses.ensures ∙ ap₂ both c.loop-k.invariant.losses (c.one.ensures ∙ ap one_loss c.in_ok-loss.ensures.loss)
          ∙ losses_more search.plan search.cond search.machine c.args.range.first c.loop-k.k;
      programs = c.in_ok-loss.ensures.programs;
    }
