use Rattle.std.proofs.Common.{◌≡◌, ℕ, Bool, List, length, sym, subst}
use Rattle.std.specs.Global.{Vec}
use Rattle.std.specs.List.{All}
use Rattle.std.proofs.lemmas.List.Elements.{All-push}
use Rattle.candidates.specs.Candidates.{candidates_of}
use Rattle.mends.proofs.Asked.{left_are_choices}
use Rattle.mends.proofs.ahead.next_choices.Goals as goal

pub loop-preserved : goal.loop-preserved
loop-preserved c =
    let task = c.args.task.now in
    let n = length (candidates_of task.object.now) in
    let OfSize : Vec Bool → Type 0 = λ v. length v.items ≡ n in
    let taken = left_are_choices n task.costs.now c.loop.waiting.items c.take_first.new.queue.items c.in-Some.other c.loop.invariant.waiting c.in-Some.ensures in
    record {
      waiting = taken.0;
      next = subst (λ (xs : List (Vec Bool)). All OfSize xs) (sym c.in_ok-push-2.ensures.items) (All-push OfSize c.loop.next.items c.in-Some.other c.loop.invariant.next taken.1);
    }
