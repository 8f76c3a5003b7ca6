use Rattle.std.proofs.Common.{◌≡◌, None, drop}
use Rattle.std.specs.List.{fold}
use Rattle.image_reasons.specs.Reasons.{newer_flush}
use Rattle.image_reasons.proofs.reasons.newest_flush.Given as goal

abbrev pub invariant-loop-flush : goal.invariant-loop-flush
invariant-loop-flush l = fold (newer_flush l.line) l.newest (drop l.flush-index l.flushed) ≡ fold (newer_flush l.line) None l.flushed
