use Rattle.std.proofs.Common.{◌≡◌, take}
use Rattle.image_reasons.proofs.origins.copies.Given as goal

abbrev pub invariant-loop-delays : goal.invariant-loop-delays
invariant-loop-delays l = l.copies.items ≡ take l.delays-index l.buffered
