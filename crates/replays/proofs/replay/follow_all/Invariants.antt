use Rattle.replays.specs.Followed.{GoesOn}
use Rattle.replays.proofs.replay.follow_all.Given as goal

abbrev pub invariant-loop-step : goal.invariant-loop-step
invariant-loop-step l = GoesOn l.crashes l.initial.follower.machine l.follower.machine
