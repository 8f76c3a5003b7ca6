use Rattle.std.proofs.Common.{◌∙◌, sym, length}
use Rattle.machine.specs.declared.step.Step.TheVariants.{Persist}
use Rattle.machine.proofs.AcceptedMasks.{none_accepted}
use Rattle.machine.proofs.machine.Machine.persistable.Goals as goal

pub returns-then-is_err : goal.returns-then-is_err
returns-then-is_err c =
    let s = c.args.self.now in
    none_accepted s c.turn_left.result c.turn_left.ensures.value (length s.shape) Persist (sym c.is_err.ensures.value ∙ c.if-is_err.true)
