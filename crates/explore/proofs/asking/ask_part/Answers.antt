use Rattle.std.proofs.Common.{Ok, subst}
use Rattle.explore.specs.declared.verdict.Asked.{Asked}
use Rattle.explore.specs.declared.verdict.Verdict.{Verdict}
use Rattle.explore.specs.Questions.{FailsBy, IsVerdict}
use Rattle.explore.proofs.AskedParts.{breaks_along, fault_of_whole}
use Rattle.explore.proofs.asking.ask_part.Goals as goal

pub returns-in-All : goal.returns-in-All
returns-in-All g c = λ sound.
    let part = c.args.part.now in
    let question = c.args.question.now in
    let start = c.args.start.now in
    let failure = c.in-Ok-Fails.failure in
    let told = subst (λ (v : Verdict). IsVerdict part start c.args.limit (Ok v)) c.in-Ok-Fails.field-0-is (c.in-Ok-Fails.ensures sound) in
    let fails = subst (λ (asked : Asked). FailsBy asked part start failure.run failure.values) c.in-All.is told in
    c.look_again.ensures part c.args.limit (breaks_along part question start failure.run failure.values c.requires fails)

pub returns-in-Err : goal.returns-in-Err
returns-in-Err g c = λ sound. fault_of_whole c.args.part.now c.args.question.now c.args.start.now c.args.limit c.in-Err.fault c.requires (c.in-Err.ensures sound)
