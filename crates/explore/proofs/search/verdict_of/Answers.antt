use Rattle.std.proofs.Common.{Option, subst}
use Rattle.explore.specs.declared.visit.Stop.{Stop}
use Rattle.explore.specs.Exploring.{IsExplored}
use Rattle.explore.proofs.ExploringEnds.{told_by}
use Rattle.explore.proofs.search.verdict_of.Goals as goal

pub returns-in-Ok : goal.returns-in-Ok
returns-in-Ok c = λ question start limit found sound is explored.
    told_by question start limit found c.args.gathered.now c.args.states c.in-Ok.found sound is
    (subst (λ (stop : Option Stop). IsExplored question start limit stop found c.args.gathered.now) c.in-None.is explored) c.in-Ok.ensures
