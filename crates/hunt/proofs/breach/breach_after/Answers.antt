use Rattle.std.proofs.Common.{sym, ap, ◌∙◌}
use Rattle.hunt.specs.Unchanged.{leaves_all}
use Rattle.hunt.proofs.UnchangedStates.{still_unbroken}
use Rattle.hunt.proofs.breach.breach_after.Goals as goal

pub returns-then-leaves_all : goal.returns-then-leaves_all
returns-then-leaves_all c s step made none =
    let keeps = ap (leaves_all c.args.seen) (sym c.requires) ∙ (sym c.leaves_all.ensures ∙ c.if-leaves_all.true) in
    still_unbroken c.args.cond.now s c.args.view.now step c.args.seen keeps made none
