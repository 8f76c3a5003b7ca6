use Rattle.added_fences.proofs.ValuesStay.{holds_in_same, holds_on_same}
use Rattle.added_fences.proofs.laws.conditions_are_kept.Goals as goal

pub returns-clause-state : goal.returns-clause-state
returns-clause-state c = λ more less condition h. holds_in_same more less h condition

pub returns-clause-image : goal.returns-clause-image
returns-clause-image c = λ more less condition image h. holds_on_same more less h image condition
