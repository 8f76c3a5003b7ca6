use Rattle.std.proofs.Common.{length}
use Rattle.candidates.specs.Candidates.{candidates_of}
use Rattle.choices.specs.Waiting.{AreChoices}
use Rattle.mends.proofs.ahead.unknown.Given as goal

abbrev pub invariant-loop-choice : goal.invariant-loop-choice
invariant-loop-choice l = AreChoices (length (candidates_of l.task.object.now)) l.unknown.items
