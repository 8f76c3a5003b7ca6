use Rattle.std.proofs.Common.{◌∙◌}
use Rattle.persist_buffer.proofs.RingEdits.{counted}
use Rattle.persist_buffer.proofs.RingLines.{lines_below}
use Rattle.persist_buffer.proofs.rings.Rings.count.Goals as goal

pub returns-clause-value : goal.returns-clause-value
returns-clause-value c = rw (← c.self.view_is) (c.len.ensures.len ∙ counted _ _ _ c.args.r _ c.self.invariant.0 c.requires c.index.ensures)

pub returns-clause-lines : goal.returns-clause-lines
returns-clause-lines c = rw (← c.self.view_is) (lines_below _ _ _ c.self.invariant.0)
