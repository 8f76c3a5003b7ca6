use Rattle.hunt.proofs.EndsOfSchedules.{ends_none, ends_some}
use Rattle.hunt.proofs.hunts.hunt_ended.Goals as goal

pub returns-clause-kept : goal.returns-clause-kept
returns-clause-kept g c =
    let search = c.args.search.now in
    ends_none c.args.recovered search.plan search.machine search.cond search.range.first search.range.n c.first_broken_end.result c.first_broken_end.ensures

pub returns-clause-broken : goal.returns-clause-broken
returns-clause-broken g c =
    let search = c.args.search.now in
    ends_some c.args.recovered search.plan search.machine search.cond search.range.first search.range.n c.first_broken_end.result c.first_broken_end.ensures
