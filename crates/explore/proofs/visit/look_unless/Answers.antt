use Rattle.explore.proofs.visit.look_unless.Goals as goal

pub returns-then-branch : goal.returns-then-branch
returns-then-branch c = c.in_ok-lacks_turns.ensures.some c.if-branch.true c.args.question.now
