use Rattle.std.proofs.Common.{ap₂, sym, ◌∙◌}
use Rattle.hunt.specs.Ends.{both_ends}
use Rattle.hunt.proofs.EndsOfSchedules.{ends_of_both, sums_fit}
use Rattle.hunt.proofs.end_counts.EndingCountingEndCountsEndCounts.add.Goals as goal

pub both-requires-clause-ended : goal.both-requires-clause-ended
both-requires-clause-ended g c =
    let search = c.args.self.now.search.now in let of = c.requires in
    (sums_fit c.args.self.now.recovered search.plan search.cond search.machine of.first of.done of.more c.args.counts.now c.args.run of.before of.after of.few).0

pub both-requires-clause-broken : goal.both-requires-clause-broken
both-requires-clause-broken g c =
    let search = c.args.self.now.search.now in let of = c.requires in
    (sums_fit c.args.self.now.recovered search.plan search.cond search.machine of.first of.done of.more c.args.counts.now c.args.run of.before of.after of.few).1

pub returns : goal.returns
returns g c =
    let search = c.args.self.now.search.now in
    λ first done more was is.
    c.both.ensures ∙ ap₂ both_ends was is ∙ sym (ends_of_both c.args.self.now.recovered search.plan search.cond search.machine first done more)
