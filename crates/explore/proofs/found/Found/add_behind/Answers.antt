use Rattle.std.proofs.Common.{sym, subst, ◌∙◌, ◌++◌}
use Rattle.explore.specs.Found.{Found, HasPath, path_at}
use Rattle.explore.proofs.FoundPaths.{added_to, has_more}
use Rattle.explore.proofs.found.Found.add_behind.Goals as goal

pub returns-clause-added : goal.returns-clause-added
returns-clause-added c = c.in_ok-add.ensures ∙ added_to c.args.self.now c.args.node.now.at c.args.node.now.path c.args.steps.now c.args.key c.requires

pub returns-clause-there : goal.returns-clause-there
returns-clause-there c =
    subst (λ (f : Found). HasPath f c.args.node.now.at c.args.node.now.path) (sym c.in_ok-add.ensures)
    (has_more c.args.self.now c.args.node.now.at c.args.node.now.path c.args.key (path_at c.args.self.now.paths c.args.node.now.at ++ c.args.steps.now) c.requires)
