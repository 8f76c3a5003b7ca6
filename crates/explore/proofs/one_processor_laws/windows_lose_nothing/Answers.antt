use Rattle.explore.proofs.WindowsLoseNothing.{windows_join}
use Rattle.explore.proofs.one_processor_laws.windows_lose_nothing.Goals as goal

pub returns : goal.returns
returns c = windows_join
