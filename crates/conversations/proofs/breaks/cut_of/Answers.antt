use Rattle.std.proofs.Common.{◌∙◌, sym}
use Rattle.conversations.proofs.BreaksHalt.{none_from}
use Rattle.conversations.proofs.breaks.cut_of.Goals as goal

pub returns-then-not-has_breaks : goal.returns-then-not-has_breaks
returns-then-not-has_breaks c =
    sym (none_from 0 c.args.lined.now c.args.declared.now c.args.machine.now c.args.steps.now (sym c.has_breaks.ensures ∙ c.if-not-has_breaks.true))
