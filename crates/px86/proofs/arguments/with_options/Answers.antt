use Rattle.px86.proofs.Building.{one_more}
use Rattle.px86.proofs.arguments.with_options.Goals as goal

pub loop-option-preserved : goal.loop-option-preserved
loop-option-preserved c = λ app is.
    one_more c.args.options.now c.loop-option.option-index _ c.loop-option.command c.with_argument-command.result _ c.loop-option-test.true (c.loop-option.invariant app is)
    (λ now made. c.with_argument-command.ensures now _ made c.argument.ensures)
