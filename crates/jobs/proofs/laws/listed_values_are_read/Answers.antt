use Rattle.jobs.proofs.ListedValues.{listed_again}
use Rattle.jobs.proofs.laws.listed_values_are_read.Goals as goal

pub returns : goal.returns
returns c = λ names image count small. listed_again names image count small
