use Rattle.hunt.proofs.LeastNumbersAreFirst.{breaks_at_end}
use Rattle.hunt.proofs.laws.found_schedules_break_conditions.Goals as goal

pub returns : goal.returns
returns c = breaks_at_end
