use Rattle.added_fences.proofs.OneMayBePutIn.{is_added}
use Rattle.added_fences.proofs.OnePutIn.{loads}
use Rattle.added_fences.proofs.laws.what_is_put_in_is_added.Goals as goal

pub returns-clause-added : goal.returns-clause-added
returns-clause-added c = is_added

pub returns-clause-loadable : goal.returns-clause-loadable
returns-clause-loadable c = loads
