use Rattle.std.proofs.Common.{List, ◌<◌, ap, length, subst, sym}
use Rattle.machine.specs.declared.step.Step.{Step}
use Rattle.explore.specs.Found.{Found}
use Rattle.explore.proofs.LinksGoOn.{link_there}
use Rattle.explore.proofs.found.Found.steps_from_parent.Goals as goal

pub steps-requires : goal.steps-requires
steps-requires c =
    let paths = ap (λ (f : Found). f.paths) c.self.view_is in
    link_there c.self.inside.links c.args.at (subst (λ (xs : List (List Step)). c.args.at < length xs) (sym paths) c.requires)
