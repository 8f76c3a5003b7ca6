use Rattle.std.proofs.Common.{◌∙◌}
use Rattle.persist_buffer.proofs.RingEdits.{first_of}
use Rattle.persist_buffer.proofs.rings.Rings.front.Goals as goal

pub returns : goal.returns
returns c = rw (← c.self.view_is) (c.front.ensures ∙ first_of _ _ _ c.args.r _ c.self.invariant.0 c.requires c.index.ensures)
