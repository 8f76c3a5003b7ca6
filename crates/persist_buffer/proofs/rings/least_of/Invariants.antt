use Rattle.std.proofs.Common.{◌≡◌, ◌^◌, take}
use Rattle.std.specs.List.{fold}
use Rattle.persist_buffer.specs.Rings.{joined}
use Rattle.persist_buffer.specs.Renumbering.{lesser}
use Rattle.persist_buffer.proofs.rings.least_of.Given as goal

abbrev pub invariant-loop-ring : goal.invariant-loop-ring
invariant-loop-ring l = l.least ≡ fold (lesser l.from) (2 ^ 63) (joined (take l.ring-index l.rings))
