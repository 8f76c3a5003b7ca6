use Rattle.std.proofs.Common.{Bool, List, ℕ, refl, subst, sym}
use Rattle.choices.specs.Waiting.{IsTakenOut}
use Rattle.mends.specs.declared.search.Search.{Search}
use Rattle.mends.specs.Searches.{IsTurn}
use Rattle.mends.proofs.Searched.{turn_begins}
use Rattle.mends.proofs.SearchesBegin.{nothing_waits}
use Rattle.mends.proofs.mending.first_mend.Goals as goal

pub take_turn-requires-clause-turn : goal.take_turn-requires-clause-turn
take_turn-requires-clause-turn g c = λ κs lives.
    let task = c.args.task.now in
    let question = task.question.now in
    let object = task.object.now in
    let old = c.loop-choice.search in
    let new : Search = record { queue = c.take_first.new.queue; ruled = old.ruled; untold = old.untold } in
    let choice = c.in-Some.choice in
    subst (λ (flags : List Bool). IsTurn question task.limit object new flags) (sym c.deref.ensures.value)
    (turn_begins question task.limit object old new choice c.loop-choice.invariant.search refl refl
    (subst (λ (costs : List ℕ). IsTakenOut costs old.queue.items new.queue.items choice) c.requires.task.costs c.in-Some.ensures))

pub returns : goal.returns
returns g c =
    let task = c.args.task.now in
    let search_done = c.loop-choice.search in
    c.none_found.ensures task.question.now task.limit task.object.now
    (nothing_waits task.question.now task.limit task.object.now search_done c.loop-choice.invariant.search c.in_default.ensures.0) c.loop-choice.invariant.search.known.opened c.loop-choice.invariant.search.known.few
