use Rattle.added_fences.proofs.SetsPutIn.{part_breaks, part_holds}
use Rattle.added_fences.proofs.laws.more_put_in_breaks_no_more.Goals as goal

pub returns-clause-breaks : goal.returns-clause-breaks
returns-clause-breaks c = part_breaks

pub returns-clause-holds : goal.returns-clause-holds
returns-clause-holds c = part_holds
