use Rattle.std.proofs.Common.{length}
use Rattle.candidates.specs.Candidates.{candidates_of}
use Rattle.choices.specs.Waiting.{AreChoices}
use Rattle.mends.proofs.ahead.next_choices.Given as goal

abbrev pub invariant-loop : goal.invariant-loop
invariant-loop l = record {
  waiting : AreChoices (length (candidates_of l.task.object.now)) l.waiting.items;
  next : AreChoices (length (candidates_of l.task.object.now)) l.next.items;
}
