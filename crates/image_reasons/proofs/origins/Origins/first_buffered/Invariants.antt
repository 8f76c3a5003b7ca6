use Rattle.std.proofs.Common.{◌≡◌, drop}
use Rattle.image_reasons.specs.Reasons.{first_given, of_later, why_buffered}
use Rattle.image_reasons.proofs.origins.Origins.first_buffered.Given as goal

abbrev pub invariant-loop-flush : goal.invariant-loop-flush
invariant-loop-flush l = first_given (of_later l.self l.line l.n why_buffered) (drop l.flush-index l.self.flushed) ≡ first_given (of_later l.self l.line l.n why_buffered) l.self.flushed
