use Rattle.added_fences.proofs.OneMayBePutIn.{holds_stays}
use Rattle.added_fences.proofs.laws.what_holds_stays.Goals as goal

pub returns : goal.returns
returns c = holds_stays
