use Rattle.replays.proofs.Followings.{goes_by_a_step}
use Rattle.replays.proofs.follower.Follower.step.Goals as goal

pub returns-in-Ok : goal.returns-in-Ok
returns-in-Ok c = goes_by_a_step _ _ _ c.args.step c.in-Ok.field-0 (c.is_left_out.ensures c.if-is_left_out.false) c.in-Ok.ensures.accepted
