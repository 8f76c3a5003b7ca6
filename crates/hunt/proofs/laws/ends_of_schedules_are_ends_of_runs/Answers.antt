use Rattle.hunt.proofs.EndsOfSchedules.{end_is, end_of_run, is_an_end, kept_by_runs}
use Rattle.hunt.proofs.laws.ends_of_schedules_are_ends_of_runs.Goals as goal

pub returns-clause-ends : goal.returns-clause-ends
returns-clause-ends c = λ recovered s. (end_is recovered s, is_an_end recovered s)

pub returns-clause-reached : goal.returns-clause-reached
returns-clause-reached c = end_of_run

pub returns-clause-kept : goal.returns-clause-kept
returns-clause-kept c = λ recovered plan condition start. kept_by_runs recovered plan start condition
