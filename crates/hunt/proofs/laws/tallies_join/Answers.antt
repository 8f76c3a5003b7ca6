use Rattle.hunt.proofs.TalliesJoin.{adjoining_ranges}
use Rattle.hunt.proofs.laws.tallies_join.Goals as goal

pub returns : goal.returns
returns c = adjoining_ranges
