use Rattle.pending_images.proofs.ListedValues.{found_are, only_values}
use Rattle.pending_images.proofs.values.values_of.Goals as goal

pub returns-clause-exact : goal.returns-clause-exact
returns-clause-exact c =
    let law = c.keeps_to_layouts.ensures in
    found_are c.args.pending.now.shape c.args.pending.now.memory c.args.given.now c.args.word law.shape law.lines law.every_word _ _ c.in_ok-values.ensures c.once.ensures.same c.once.ensures.ascending

pub returns-clause-value : goal.returns-clause-value
returns-clause-value c =
    let law = c.keeps_to_layouts.ensures in
    only_values c.args.pending.now.shape c.args.pending.now.memory c.args.given.now c.args.word law.shape law.lines law.every_word _ (returns-clause-exact c)
