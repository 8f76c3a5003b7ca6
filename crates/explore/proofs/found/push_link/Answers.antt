use Rattle.std.proofs.Common.{List, ◌++◌, [], get_or, ap, sym, ◌∙◌}
use Rattle.std.specs.Prelude.{reverse}
use Rattle.std.proofs.lemmas.Option.{slice_get-get_or}
use Rattle.machine.specs.declared.step.Step.{Step}
use Rattle.explore.specs.Found.{Link}
use Rattle.explore.proofs.LinksGoOn.{steps_is}
use Rattle.explore.proofs.found.push_link.Goals as goal

pub returns : goal.returns
returns c =
    let links = c.args.links.now in
    let none : Link = record { parent = 0; steps = [] } in
    let there = slice_get-get_or links c.args.at none c.requires in
    let same = c.steps.ensures (get_or links c.args.at none) there in
    c.in_ok-push_back.ensures ∙ ap (λ (steps : List Step). c.args.back.now.items ++ reverse steps) (same ∙ sym (steps_is links c.args.at (get_or links c.args.at none) there))
