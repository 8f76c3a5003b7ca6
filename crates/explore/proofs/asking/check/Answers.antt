use Rattle.explore.proofs.Beginnings.{told_of_itself}
use Rattle.explore.proofs.asking.check.Goals as goal

pub returns-in-None : goal.returns-in-None
returns-in-None g c = λ sound. told_of_itself c.args.question.now c.args.start.now c.args.limit c.ask_part.result (c.ask_part.ensures sound)
