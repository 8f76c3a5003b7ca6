use Rattle.persist_buffer.proofs.LengthsOfStampedLists.{few_below}
use Rattle.persist_buffer.proofs.rings.Rings.next.Goals as goal

pub returns-clause-few : goal.returns-clause-few
returns-clause-few c = rw (← c.self.view_is) (few_below _ _ c.self.invariant.0.rising c.self.invariant.0.below)
