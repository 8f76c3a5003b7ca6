use Rattle.pending_images.proofs.LinesLeftOut.{narrow_on, wide_on}
use Rattle.pending_images.proofs.laws.other_lines_do_not_matter.Goals as goal

pub returns-clause-narrow : goal.returns-clause-narrow
returns-clause-narrow c = narrow_on

pub returns-clause-wide : goal.returns-clause-wide
returns-clause-wide c = wide_on
