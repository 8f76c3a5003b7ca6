use Rattle.explore.proofs.LawsInWords.{persist_within, settle_within}
use Rattle.explore.proofs.WithinMemories.{within_grown}
use Rattle.explore.proofs.laws.what_lines_hold_decides_what_they_will.Goals as goal

pub returns-clause-appended : goal.returns-clause-appended
returns-clause-appended c = within_grown

pub returns-clause-persist : goal.returns-clause-persist
returns-clause-persist c = persist_within

pub returns-clause-settle : goal.returns-clause-settle
returns-clause-settle c = settle_within
