use Rattle.causes.specs.Enough.{IsEnoughInImage}
use Rattle.causes.proofs.Leads.{none_right}
use Rattle.causes.proofs.telling.none_in_image.Goals as goal

pub returns : goal.returns
returns c = λ question s image. none_right (IsEnoughInImage question s image) c.args.missing.now c.none_enough.result c.none_enough.ensures
