use Rattle.added_fences.proofs.EndsKept.{end_kept, mode_kept, outcome_kept}
use Rattle.added_fences.proofs.laws.ends_are_kept.Goals as goal

pub returns-clause-end : goal.returns-clause-end
returns-clause-end c = end_kept

pub returns-clause-mode : goal.returns-clause-mode
returns-clause-mode c = λ more less recovered. mode_kept recovered more less

pub returns-clause-outcome : goal.returns-clause-outcome
returns-clause-outcome c = outcome_kept
