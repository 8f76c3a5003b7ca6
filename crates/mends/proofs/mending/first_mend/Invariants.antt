use Rattle.choices.specs.Waiting.{weight}
use Rattle.mends.specs.Ahead.{AreAsked}
use Rattle.mends.specs.Searches.{IsSearch}
use Rattle.mends.proofs.mending.first_mend.Given as goal

abbrev pub invariant-loop-choice : goal.invariant-loop-choice
invariant-loop-choice g l = record {
  search : IsSearch l.task.question.now l.task.limit l.task.object.now l.search;
  asked : AreAsked l.task.question.now l.task.limit l.task.object.now l.ahead.asked.items;
}

abbrev pub decreases-loop-choice : goal.decreases-loop-choice
decreases-loop-choice g l = weight l.search.queue.items
