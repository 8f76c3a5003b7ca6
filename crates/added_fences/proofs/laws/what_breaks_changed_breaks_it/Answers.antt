use Rattle.added_fences.proofs.OneMayBePutIn.{breaks_before}
use Rattle.added_fences.proofs.laws.what_breaks_changed_breaks_it.Goals as goal

pub returns : goal.returns
returns c = breaks_before
