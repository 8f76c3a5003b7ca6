use Rattle.std.proofs.Common.{arith}
use Rattle.hunt.proofs.TallyOfMore.{more_counted, more_fit}
use Rattle.hunt.proofs.tallies.TalliedCountingVecOutcomeOutcomeCounts.add.Goals as goal

pub count_all-requires : goal.count_all-requires
count_all-requires g c =
    let of = c.requires in let few = of.few in
    more_fit c.args.self.now.plan.now c.args.self.now.machine.now of.first of.done of.more c.args.outcomes.items c.args.counts.now of.before of.after (omega (arith, few))

pub returns : goal.returns
returns g c =
    λ first done more was is.
    more_counted c.args.self.now.plan.now c.args.self.now.machine.now first done more c.args.outcomes.items c.args.counts.now c.count_all.new.self was is c.in_ok-count_all.ensures
