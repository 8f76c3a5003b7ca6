use Rattle.std.proofs.Common.{Bool, List, subst}
use Rattle.std.specs.Global.{Vec}
use Rattle.choices.specs.Waiting.{IsLeastPlace}
use Rattle.choices.proofs.Waited.{taken_out}
use Rattle.choices.proofs.queue.take_first.Goals as goal

pub returns : goal.returns
returns c =
    taken_out c.args.costs.now c.args.queue.now.items c.least_place-place.result c.remove.result c.remove.new.self.items
    (subst (λ (queue : List (Vec Bool)). IsLeastPlace c.args.costs.now queue c.least_place-place.result) c.deref.ensures.value c.least_place-place.ensures)
    c.remove.ensures.value c.remove.ensures.items c.remove.ensures.by_index.2
