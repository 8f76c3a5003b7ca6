use Rattle.persist_buffer.proofs.RingLines.{lines_below}
use Rattle.persist_buffer.proofs.rings.Rings.keep_to_lines.Goals as goal

pub returns : goal.returns
returns c = rw (← c.self.view_is) (lines_below _ _ _ c.self.invariant.0)
