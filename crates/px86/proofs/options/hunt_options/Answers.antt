use Rattle.commands.specs.declared.jobs.HuntOptions.{HuntOptions}
use Rattle.px86.proofs.options.hunt_options.Goals as goal

pub returns-in_err-workers : goal.returns-in_err-workers
returns-in_err-workers c = rw c.from_residual-in_err-workers.ensures (λ (options : HuntOptions) is. c.in_err-workers.ensures options.workers is.workers)
