use Rattle.std.proofs.Common.{refl}
use Rattle.store_buffer.proofs.IndexOfNewestWrites.{no_newest}
use Rattle.store_buffer.proofs.buffer.Buffer.new.Goals as goal

pub invariant_of-result : goal.invariant_of-result
invariant_of-result c = rw (c.new.ensures, c.new-2.ensures) (refl, no_newest, refl)
