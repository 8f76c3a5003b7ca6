use Rattle.jobs.proofs.ExactReports.{least_set_on}
use Rattle.jobs.proofs.closed_set.find_set.Goals as goal

pub returns-clause-exact : goal.returns-clause-exact
returns-clause-exact c = λ ok.
    least_set_on c.args.options.now.values.now c.args.object.now c.args.steps.now c.in_ok-image.image c.in_ok-steps.steps.items
    (rw c.layout.ensures at c.in_ok-image.ensures) c.in_ok-steps.ensures (rw c.deref.ensures.value at (c.set_told.ensures.least ok))
