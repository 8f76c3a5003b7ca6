use Rattle.std.proofs.Common.{refl}
use Rattle.px86.specs.declared.request.Request.{Request}
use Rattle.px86.proofs.request.request_for.Goals as goal

pub returns-in_err-file-clause-asked : goal.returns-in_err-file-clause-asked
returns-in_err-file-clause-asked c = rw c.from_residual-in_err-file.ensures (λ (request : Request) asks. c.in_err-file.ensures.none refl request.file.now asks.1)
