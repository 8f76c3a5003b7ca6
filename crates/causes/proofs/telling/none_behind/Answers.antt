use Rattle.causes.specs.Enough.{IsEnoughBehind}
use Rattle.causes.proofs.Leads.{none_right}
use Rattle.causes.proofs.telling.none_behind.Goals as goal

pub returns : goal.returns
returns c = λ question limit s. none_right (IsEnoughBehind question limit s) c.args.missing.now c.none_enough.result c.none_enough.ensures
