use Rattle.commands.specs.declared.jobs.TallyOptions.{TallyOptions}
use Rattle.px86.proofs.options.schedules_of.Goals as goal

pub returns-in_err-first : goal.returns-in_err-first
returns-in_err-first c = rw c.from_residual-in_err-first.ensures (λ (options : TallyOptions) is. c.in_err-first.ensures options.first is.first)

pub returns-in_err-runs : goal.returns-in_err-runs
returns-in_err-runs c = rw c.from_residual-in_err-runs.ensures (λ (options : TallyOptions) is. c.in_err-runs.ensures options.runs is.runs)
