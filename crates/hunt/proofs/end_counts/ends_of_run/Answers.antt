use Rattle.std.proofs.Common.{◌<◌, ap₂, ◌∙◌, arith, rules}
use Rattle.schedule.specs.Ranges.{max_schedules}
use Rattle.hunt.specs.Ends.{both_ends}
use Rattle.hunt.proofs.EndsOfSchedules.{ends_more, one_fits}
use Rattle.hunt.proofs.end_counts.ends_of_run.Goals as goal

pub both-counts-requires-clause-ended : goal.both-counts-requires-clause-ended
both-counts-requires-clause-ended g c =
    let asked = c.args.search.now in let low : c.loop-k.k < max_schedules = search rules in
    (one_fits c.args.recovered asked.plan asked.cond asked.machine c.args.range.first c.loop-k.k c.loop-k.counts c.counted-found.result c.loop-k.invariant.counts c.counted-found.ensures.counts low).0

pub both-counts-requires-clause-broken : goal.both-counts-requires-clause-broken
both-counts-requires-clause-broken g c =
    let asked = c.args.search.now in let low : c.loop-k.k < max_schedules = search rules in
    (one_fits c.args.recovered asked.plan asked.cond asked.machine c.args.range.first c.loop-k.k c.loop-k.counts c.counted-found.result c.loop-k.invariant.counts c.counted-found.ensures.counts low).1

pub loop-k-preserved : goal.loop-k-preserved
loop-k-preserved g c =
    let search = c.args.search.now in
    record {
      counts = c.both-counts.ensures ∙ ap₂ both_ends c.loop-k.invariant.counts c.counted-found.ensures.counts
          ∙ ends_more c.args.recovered search.plan search.cond search.machine c.args.range.first c.loop-k.k;
      programs = c.counted-found.ensures.programs;
    }
