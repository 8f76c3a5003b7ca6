use Rattle.verdicts.proofs.FailuresBreak.{kept_is_not_broken}
use Rattle.verdicts.proofs.laws.what_is_kept_is_not_broken.Goals as goal

pub returns : goal.returns
returns c = kept_is_not_broken
