use Rattle.std.proofs.Common.{Bool, List, refl, subst}
use Rattle.choices.specs.Waiting.{IsSpread}
use Rattle.mends.specs.declared.search.Search.{Search}
use Rattle.mends.specs.declared.turn.Answer.{Answer}
use Rattle.mends.specs.Searches.{IsAnswerTo}
use Rattle.mends.proofs.Searched.{goes_further}
use Rattle.mends.proofs.turn.take_turn.Goals as goal

pub returns-in_ok-spread-in-Bound-clause-turn : goal.returns-in_ok-spread-in-Bound-clause-turn
returns-in_ok-spread-in-Bound-clause-turn g c =
    let task = c.args.task.now in
    let choice = c.args.choice.now in
    let mid = c.answer_to.new.search in
    let new : Search = record { queue = c.spread.new.queue; ruled = mid.ruled; untold = mid.untold } in
    let bound = c.in-Bound.bound in
    let told =
    subst (λ (answer : Answer). IsAnswerTo task.question.now task.limit task.object.now c.args.search.now mid choice answer) c.in-Bound.is c.in_ok-bound.ensures.answer in
    goes_further task.question.now task.limit task.object.now c.args.search.now mid new choice bound.items told.0 told.1 told.2 refl refl c.in_ok-spread-in-Bound.ensures.choices
    (subst (λ (flags : List Bool). IsSpread mid.queue.items c.spread.new.queue.items choice flags) c.deref.ensures.value c.in_ok-spread-in-Bound.ensures.spread)
