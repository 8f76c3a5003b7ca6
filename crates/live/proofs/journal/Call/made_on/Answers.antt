use Rattle.std.proofs.Common.{Bool, ap, sym}
use Rattle.live.specs.declared.journal.Answer.TheVariants.{Looked}
use Rattle.live.proofs.journal.Call.made_on.Goals as goal

pub returns-in-Look-clause-answer : goal.returns-in-Look-clause-answer
returns-in-Look-clause-answer c = rw (c.in-Look.is, sym c.view.ensures) (ap (λ (b : Bool). Looked b) c.holds.ensures)
