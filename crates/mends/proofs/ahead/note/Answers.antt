use Rattle.std.proofs.Common.{Some}
use Rattle.std.proofs.lemmas.List.Elements.{All-pop}
use Rattle.mends.specs.Ahead.{IsAskedIfAny}
use Rattle.mends.proofs.ahead.note.Goals as goal

pub note_one-requires-clause-one : goal.note_one-requires-clause-one
note_one-requires-clause-one c =
    let task = c.args.task.now in
    (All-pop (IsAskedIfAny task.question.now task.limit task.object.now) c.loop-one.made.items c.pop.new.self.items (Some c.in-Some.one) c.in-Some.ensures.items c.loop-one.invariant.made).1

pub loop-one-preserved : goal.loop-one-preserved
loop-one-preserved c =
    let task = c.args.task.now in
    record {
      made = (All-pop (IsAskedIfAny task.question.now task.limit task.object.now) c.loop-one.made.items c.pop.new.self.items (Some c.in-Some.one) c.in-Some.ensures.items
          c.loop-one.invariant.made).0;
      asked = c.in_ok-note_one.ensures;
    }
