use Rattle.debugger.proofs.CheckpointsRise.{short_back, short_here}
use Rattle.debugger.proofs.laws.replays_are_short.Goals as goal

pub returns-clause-back : goal.returns-clause-back
returns-clause-back c = short_back

pub returns-clause-here : goal.returns-clause-here
returns-clause-here c = short_here
