use Rattle.std.proofs.Common.{List, ◌<◌, ap, length, subst, sym, ◌∙◌}
use Rattle.machine.specs.declared.step.Step.{Step}
use Rattle.explore.specs.Found.{Found, path_at}
use Rattle.explore.proofs.LinksGoOn.{link_there, there_is}
use Rattle.explore.proofs.found.Found.path.Goals as goal

pub steps_to-requires : goal.steps_to-requires
steps_to-requires c =
    let paths = ap (λ (f : Found). f.paths) c.self.view_is in
    link_there c.self.inside.links c.args.at (subst (λ (xs : List (List Step)). c.args.at < length xs) (sym paths) c.requires)

pub returns : goal.returns
returns c =
    let paths = ap (λ (f : Found). f.paths) c.self.view_is in
    there_is c.args.self.now.paths c.args.at c.of.result c.requires (sym (c.of.ensures ∙ c.in_ok-steps_to.ensures ∙ ap (λ (xs : List (List Step)). path_at xs c.args.at) paths))
