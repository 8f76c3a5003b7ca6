use Rattle.explore.proofs.RunsAlone.{left_alone, left_by_some}
use Rattle.explore.proofs.one_processor_laws.a_processor_alone_needs_no_search.Goals as goal

pub returns-clause-ends : goal.returns-clause-ends
returns-clause-ends c = left_alone

pub returns-clause-always : goal.returns-clause-always
returns-clause-always c = left_by_some
