use Rattle.std.proofs.Common.{ap, ◌∙◌}
use Rattle.machine.specs.State.{State}
use Rattle.thread_jobs.proofs.ReplaysKeepTheShape.{replay_shape}
use Rattle.thread_jobs.proofs.live_report.dealt_report.Goals as goal

pub closed_report-requires : goal.closed_report-requires
closed_report-requires g c =
    let closed = c.in-Ok.closed in
    ap (λ (s : State). s.shape) c.in-Ok.ensures.replay ∙ replay_shape c.args.machine closed.journal.items ∙ c.requires.shape
