use Rattle.std.proofs.Common.{subst}
use Rattle.clap.specs.Words.{found_of, rows_of}
use Rattle.commands.specs.declared.jobs.Task.{Task}
use Rattle.px86.specs.declared.command.Command.{Command}
use Rattle.px86.specs.declared.command.Command.TheVariants.{Mend, Next, Trace}
use Rattle.px86.specs.CommandLines.{IsTaskOf}
use Rattle.px86.proofs.request.task_of.Goals as goal

pub returns-in_err-next_options-in-Next : goal.returns-in_err-next_options-in-Next
returns-in_err-next_options-in-Next c = rw c.from_residual.ensures (λ (task : Task) asks.
    let rows = rows_of (found_of c.args.matches.now) in
    let is : IsTaskOf Next rows task = subst (λ (command : Command). IsTaskOf command rows task) c.in-Next.is asks in
    c.in_err-next_options-in-Next.ensures is.0 is.1)

pub returns-in_err-trace_options-in-Trace : goal.returns-in_err-trace_options-in-Trace
returns-in_err-trace_options-in-Trace c = rw c.from_residual-in_err-trace_options-in-Trace.ensures (λ (task : Task) asks.
    let rows = rows_of (found_of c.args.matches.now) in
    let is : IsTaskOf Trace rows task = subst (λ (command : Command). IsTaskOf command rows task) c.in-Trace.is asks in
    c.in_err-trace_options-in-Trace.ensures is.0 is.1)

pub returns-in_err-mend_options-in-Mend : goal.returns-in_err-mend_options-in-Mend
returns-in_err-mend_options-in-Mend c = rw c.from_residual-in_err-mend_options-in-Mend.ensures (λ (task : Task) asks.
    let rows = rows_of (found_of c.args.matches.now) in
    let is : IsTaskOf Mend rows task = subst (λ (command : Command). IsTaskOf command rows task) c.in-Mend.is asks in
    c.in_err-mend_options-in-Mend.ensures is.0 is.1)
