use Rattle.images.proofs.image_list.products.Goals as goal

pub returns-clause-exact : goal.returns-clause-exact
returns-clause-exact c = rw c.pending.ensures at c.products.ensures.exact
