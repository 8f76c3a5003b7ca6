use Rattle.explore.specs.Asked.{asked_by}
use Rattle.explore.proofs.AskedSteps.{counts_within}
use Rattle.explore.proofs.asked.narrowed.Goals as goal

pub values_at-requires : goal.values_at-requires
values_at-requires c = counts_within (asked_by c.args.cond.now) c.args.pending.now.memory c.args.k c.in_ok-counts.counts c.in_ok-counts.ensures
