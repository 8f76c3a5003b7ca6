use Rattle.image_reasons.proofs.EntriesAreThere.{entries_are_there}
use Rattle.image_reasons.proofs.laws.entries_are_there.Goals as goal

pub returns : goal.returns
returns c = entries_are_there
