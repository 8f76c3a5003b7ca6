use Rattle.replays.specs.Followed.{GoesOn}
use Rattle.replays.proofs.follower.Follower.drain_up_to.Given as goal

abbrev pub invariant-loop-before : goal.invariant-loop-before
invariant-loop-before l = GoesOn l.crashes l.initial.self.machine l.self.machine
