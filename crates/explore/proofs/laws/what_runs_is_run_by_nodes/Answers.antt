use Rattle.explore.proofs.RanByClosed.{ran_by_closed}
use Rattle.explore.proofs.laws.what_runs_is_run_by_nodes.Goals as goal

pub returns : goal.returns
returns c = λ sets locals question nodes start t are reachable p recovery place.
    let (steps, ran) = reachable in
    ran_by_closed sets locals question nodes start t p recovery place are steps ran.crashing ran.accepted ran.leads
