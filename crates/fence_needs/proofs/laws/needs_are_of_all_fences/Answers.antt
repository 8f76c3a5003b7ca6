use Rattle.fence_needs.proofs.NeedsAreSo.{lists_each_once}
use Rattle.fence_needs.proofs.laws.needs_are_of_all_fences.Goals as goal

pub returns : goal.returns
returns c = lists_each_once
