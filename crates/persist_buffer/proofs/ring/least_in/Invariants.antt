use Rattle.std.proofs.Common.{◌≡◌, length, take}
use Rattle.std.specs.List.{fold}
use Rattle.persist_buffer.specs.Renumbering.{lesser}
use Rattle.persist_buffer.proofs.ring.least_in.Given as goal

abbrev pub invariant-loop-i : goal.invariant-loop-i
invariant-loop-i l = record { ends : l.i-end ≡ length l.ring.items; least : l.least ≡ fold (lesser l.from) l.most (take l.i l.ring.items) }
