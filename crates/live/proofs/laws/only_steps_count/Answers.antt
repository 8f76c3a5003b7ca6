use Rattle.live.proofs.LegalJournalsReplay.{steps_run}
use Rattle.live.proofs.laws.only_steps_count.Goals as goal

pub returns : goal.returns
returns c = steps_run
