use Rattle.std.proofs.Common.{[], ◌∙◌, ap}
use Rattle.persist_buffer.specs.Rings.{all_placed, joined}
use Rattle.persist_buffer.proofs.Merging.{rings_rise, listed}
use Rattle.persist_buffer.proofs.rings.Rings.list.Goals as goal

pub merge_all-requires : goal.merge_all-requires
merge_all-requires c = rings_rise _ _ _ _ c.self.invariant.0 c.as_slice.ensures.value

pub returns : goal.returns
returns c = rw (← c.self.view_is) (c.in_ok-list.ensures ∙ (ap (λ rings. all_placed [] (joined rings)) c.as_slice.ensures.value ∙ listed c.self.inside.rings.items c.self.invariant.0.rising))
