use Rattle.explore.proofs.LawsInWords.{own_loses_none, restarts_alike}
use Rattle.explore.proofs.laws.crashes_forget_own_steps.Goals as goal

pub returns-clause-restarts : goal.returns-clause-restarts
returns-clause-restarts c = λ locals s t is. let (step, seen, move, made, own) = is in restarts_alike locals s t step seen move made own

pub returns-clause-images : goal.returns-clause-images
returns-clause-images c = λ locals s t is image. let (step, seen, move, made, own) = is in own_loses_none locals s t step seen image move made own
