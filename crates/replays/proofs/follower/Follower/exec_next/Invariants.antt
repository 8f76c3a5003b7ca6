use Rattle.replays.specs.Followed.{GoesOn}
use Rattle.replays.proofs.follower.Follower.exec_next.Given as goal

abbrev pub invariant-loop : goal.invariant-loop
invariant-loop l = GoesOn l.crashes l.initial.self.machine l.self.machine
