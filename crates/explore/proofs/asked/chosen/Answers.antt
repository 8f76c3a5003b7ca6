use Rattle.explore.proofs.AskedSteps.{before_fits, low_fits}
use Rattle.explore.proofs.asked.chosen.Goals as goal

pub least_count-requires-clause-ordered : goal.least_count-requires-clause-ordered
least_count-requires-clause-ordered c = low_fits c.args.line c.args.k c.low-least.result c.before-2.result c.args.pending.now.memory.pending c.low-least.ensures c.before-2.ensures

pub least_count-requires-clause-there : goal.least_count-requires-clause-there
least_count-requires-clause-there c = before_fits c.args.line c.args.k c.before-2.result c.args.pending.now.memory.pending c.before-2.ensures
