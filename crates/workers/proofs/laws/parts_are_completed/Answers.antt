use Rattle.workers.proofs.CompletedParts.{each_part, last_completes}
use Rattle.workers.proofs.laws.parts_are_completed.Goals as goal

pub returns-clause-last : goal.returns-clause-last
returns-clause-last c = last_completes

pub returns-clause-each : goal.returns-clause-each
returns-clause-each c = each_part
