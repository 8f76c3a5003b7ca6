use Rattle.std.proofs.Common.{take}
use Rattle.explore.specs.Apart.{AreOf, both}
use Rattle.explore.proofs.apart.sort.Given as goal

abbrev pub invariant-loop-part : goal.invariant-loop-part
invariant-loop-part l = AreOf (both l.sorted.persisted l.sorted.others) (take l.part-index l.parts)
