use Rattle.std.proofs.Common.{◌≡◌, take}
use Rattle.image_reasons.proofs.insertion.copies.Given as goal

abbrev pub invariant-loop-programs : goal.invariant-loop-programs
invariant-loop-programs l = l.copies.items ≡ take l.programs-index l.processors
