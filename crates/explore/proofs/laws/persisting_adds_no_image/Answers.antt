use Rattle.explore.proofs.LawsInWords.{persist_adds_none, settle_adds_none}
use Rattle.explore.proofs.laws.persisting_adds_no_image.Goals as goal

pub returns-clause-persist : goal.returns-clause-persist
returns-clause-persist c = λ s t line seen sound made image. persist_adds_none s t line seen image sound made

pub returns-clause-settle : goal.returns-clause-settle
returns-clause-settle c = λ s t seen sound made image. settle_adds_none s t seen image sound made
