use Rattle.hunt.proofs.LeastLosses.{answers_none, answers_some}
use Rattle.hunt.proofs.hunts.hunt_crashes.Goals as goal

pub returns-clause-safe : goal.returns-clause-safe
returns-clause-safe g c =
    let search = c.args.search.now in
    answers_none search.plan search.cond search.machine search.range.first search.range.n c.first_loss.result c.first_loss.ensures

pub returns-clause-broken : goal.returns-clause-broken
returns-clause-broken g c =
    let search = c.args.search.now in
    answers_some search.plan search.cond search.machine search.range.first search.range.n c.first_loss.result c.first_loss.ensures
