use Rattle.std.proofs.Common.{rules, ◌<◌, ◌∙◌, length, sym}
use Rattle.explore.specs.Followed.{first_own}
use Rattle.explore.proofs.OwnInstructions.{none_here, one_here}
use Rattle.explore.proofs.own.first_own.Goals as goal

pub returns-in-Some : goal.returns-in-Some
returns-in-Some c =
    let s = c.args.here.now in
    let within : c.loop-p.p < length s.processors = search rules in
    one_here c.args.locals s c.loop-p.p c.in-Some.step (first_own c.args.locals s) within (sym c.in-Some.is ∙ c.own_at.ensures) c.loop-p.invariant

pub loop-p-preserved : goal.loop-p-preserved
loop-p-preserved c =
    let s = c.args.here.now in
    let within : c.loop-p.p < length s.processors = search rules in
    none_here c.args.locals s c.loop-p.p (first_own c.args.locals s) within (sym c.in_default.is ∙ c.own_at.ensures) c.loop-p.invariant
