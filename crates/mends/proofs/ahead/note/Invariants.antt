use Rattle.std.proofs.Common.{vec_len}
use Rattle.mends.specs.Ahead.{AreAnswered, AreAsked}
use Rattle.mends.proofs.ahead.note.Given as goal

abbrev pub invariant-loop-one : goal.invariant-loop-one
invariant-loop-one l = record {
  made : AreAnswered l.task.question.now l.task.limit l.task.object.now l.made.items;
  asked : AreAsked l.task.question.now l.task.limit l.task.object.now l.asked.items;
}

abbrev pub decreases-loop-one : goal.decreases-loop-one
decreases-loop-one l = vec_len l.made
