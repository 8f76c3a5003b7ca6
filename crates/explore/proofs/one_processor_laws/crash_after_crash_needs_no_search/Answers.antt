use Rattle.std.specs.Prelude.{true}
use Rattle.explore.proofs.CrashAfterCrash.{all_left}
use Rattle.explore.proofs.one_processor_laws.crash_after_crash_needs_no_search.Goals as goal

pub returns : goal.returns
returns c most start t processor list persisted sound single all = all_left most start processor list all true t persisted sound single
