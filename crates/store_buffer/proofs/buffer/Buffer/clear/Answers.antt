use Rattle.std.proofs.Common.{refl}
use Rattle.store_buffer.proofs.IndexOfNewestWrites.{no_newest}
use Rattle.store_buffer.proofs.buffer.Buffer.clear.Goals as goal

pub invariant_of-self : goal.invariant_of-self
invariant_of-self c = rw (c.clear.ensures, c.new-self-inside.ensures) (refl, no_newest, refl)
