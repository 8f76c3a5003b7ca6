use Rattle.std.proofs.Common.{List, Some, subst}
use Rattle.mends.specs.declared.ahead.Asked.{Asked}
use Rattle.mends.specs.Ahead.{IsPlaceOf}
use Rattle.mends.proofs.Asked.{still_asked, told_of}
use Rattle.mends.proofs.ahead.taken.Goals as goal

pub returns-clause-tried : goal.returns-clause-tried
returns-clause-tried c =
    let task = c.args.task.now in
    let place = c.in_ok-place.place in
    told_of task.question.now task.limit task.object.now c.args.asked.now.items c.args.choice.now place c.remove.result c.requires
    (subst (λ (xs : List Asked). IsPlaceOf xs c.args.choice.now (Some place)) c.deref.ensures.value c.in_ok-place.ensures) c.remove.ensures.value

pub returns-clause-asked : goal.returns-clause-asked
returns-clause-asked c =
    let task = c.args.task.now in
    still_asked task.question.now task.limit task.object.now c.args.asked.now.items c.remove.new.self.items c.in_ok-place.place c.requires
    c.remove.ensures.by_index.2
