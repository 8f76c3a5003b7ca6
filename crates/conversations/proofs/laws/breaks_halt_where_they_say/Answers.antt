use Rattle.conversations.proofs.BreaksHalt.{cuts_are_first, gone_alike, halts_there}
use Rattle.conversations.proofs.laws.breaks_halt_where_they_say.Goals as goal

pub returns-clause-cuts : goal.returns-clause-cuts
returns-clause-cuts c = cuts_are_first

pub returns-clause-halts : goal.returns-clause-halts
returns-clause-halts c = halts_there

pub returns-clause-none : goal.returns-clause-none
returns-clause-none c = gone_alike
