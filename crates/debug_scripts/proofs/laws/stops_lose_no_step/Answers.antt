use Rattle.debug_scripts.proofs.NoStepIsLost.{stopped_leads, ended_leads, refused_leads}
use Rattle.debug_scripts.proofs.laws.stops_lose_no_step.Goals as goal

pub returns-clause-stopped : goal.returns-clause-stopped
returns-clause-stopped c id n names s = stopped_leads names s id n

pub returns-clause-ended : goal.returns-clause-ended
returns-clause-ended c = ended_leads

pub returns-clause-refused : goal.returns-clause-refused
returns-clause-refused c n refusal names s = refused_leads names s n refusal
