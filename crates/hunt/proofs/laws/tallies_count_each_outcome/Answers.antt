use Rattle.hunt.proofs.TallyTotals.{tally_total}
use Rattle.hunt.proofs.TalliesCountEachOutcome.{pair_always, pair_only, tally_rises}
use Rattle.hunt.proofs.laws.tallies_count_each_outcome.Goals as goal

pub returns-clause-total : goal.returns-clause-total
returns-clause-total c = tally_total

pub returns-clause-only : goal.returns-clause-only
returns-clause-only c = pair_only

pub returns-clause-always : goal.returns-clause-always
returns-clause-always c = pair_always

pub returns-clause-order : goal.returns-clause-order
returns-clause-order c = tally_rises
