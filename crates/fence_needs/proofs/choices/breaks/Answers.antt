use Rattle.std.proofs.Common.{rules, ◌≡◌, suc, ◌-◌, arith}
use Rattle.verdicts.specs.Verdicts.{IsFailureOf}
use Rattle.fence_needs.proofs.ChoicesAreTried.{one_breaks}
use Rattle.fence_needs.proofs.choices.breaks.Goals as goal

pub returns-in-Ok-Fails : goal.returns-in-Ok-Fails
returns-in-Ok-Fails g c =
    let failure = c.in-Ok-Fails.field-0-0 in
    let fails : IsFailureOf c.args.question.now c.args.object.now failure = search rules in
    let one : c.args.left.now ≡ suc (c.args.left.now - 1) = omega (arith, c.if-left-eq0.false) in
    one_breaks c.args.question.now c.args.limit c.args.object.now failure c.args.left.now (c.args.left.now - 1) fails one
