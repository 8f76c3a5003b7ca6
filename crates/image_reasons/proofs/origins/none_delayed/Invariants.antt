use Rattle.std.proofs.Common.{◌≡◌, [], replicate}
use Rattle.image_reasons.proofs.origins.none_delayed.Given as goal

abbrev pub invariant-loop-processor : goal.invariant-loop-processor
invariant-loop-processor l = l.delays.items ≡ replicate l._processor []
