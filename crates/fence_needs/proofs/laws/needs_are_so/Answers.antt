use Rattle.fence_needs.proofs.NeedsAreSo.{kept_breaks, left_out_keeps, needed_breaks, together_keeps}
use Rattle.fence_needs.proofs.laws.needs_are_so.Goals as goal

pub returns-clause-needed : goal.returns-clause-needed
returns-clause-needed c question limit object needs i one failure are = needed_breaks question limit object needs are i one failure

pub returns-clause-left_out : goal.returns-clause-left_out
returns-clause-left_out c question limit object needs i one are = left_out_keeps question limit object needs are i one

pub returns-clause-kept : goal.returns-clause-kept
returns-clause-kept c question limit object needs i one failure are = kept_breaks question limit object needs are i one failure

pub returns-clause-together : goal.returns-clause-together
returns-clause-together c question limit object needs are = together_keeps question limit object needs are
