use Rattle.std.proofs.Common.{rules}
use Rattle.mend_jobs.proofs.need_text.kept.Goals as goal

pub returns : goal.returns
returns c = search rules
