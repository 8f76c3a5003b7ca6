use Rattle.pending_images.proofs.LinesLeftOut.{narrow_reached, values_of_rest, wide_reached}
use Rattle.pending_images.proofs.MarkersBehind.{behind_law}
use Rattle.pending_images.proofs.laws.lines_may_be_left_out.Goals as goal

pub returns-clause-narrow : goal.returns-clause-narrow
returns-clause-narrow c = narrow_reached

pub returns-clause-wide : goal.returns-clause-wide
returns-clause-wide c = wide_reached

pub returns-clause-values : goal.returns-clause-values
returns-clause-values c words lines m rest shape given word values left on all = values_of_rest words lines m rest shape given word values left on all

pub returns-clause-behind : goal.returns-clause-behind
returns-clause-behind c = behind_law
