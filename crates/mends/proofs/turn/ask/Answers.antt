use Rattle.std.proofs.Common.{rules, ◌≡◌, None, subst}
use Rattle.mends.specs.declared.tried.Tried.{Tried}
use Rattle.mends.specs.Mends.{mended}
use Rattle.mends.specs.Searches.{IsTried}
use Rattle.mends.proofs.Searched.{no_program}
use Rattle.mends.proofs.turn.ask.Goals as goal

pub returns-in_ok-to_vec-in-NoProgram-clause-answer : goal.returns-in_ok-to_vec-in-NoProgram-clause-answer
returns-in_ok-to_vec-in-NoProgram-clause-answer g c =
    let task = c.args.task.now in
    let choice = c.args.choice.now in
    let same : c.in_ok-to_vec-in-NoProgram.field-0.items ≡ choice = search rules in
    let none : mended task.object.now choice ≡ None = subst (λ (tried : Tried). IsTried task.question.now task.limit task.object.now choice tried) c.in-NoProgram.is c.in_ok-answer.ensures.tried in
    no_program task.question.now task.limit task.object.now c.args.search.now choice c.in_ok-to_vec-in-NoProgram.field-0.items c.requires.turn none same
